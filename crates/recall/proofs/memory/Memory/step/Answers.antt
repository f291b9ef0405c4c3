use Rattle.std.proofs.Common.{◌≡◌, sym, ◌∙◌}
use Rattle.recall.proofs.Recalled.{made_step, recalled_step}
use Rattle.recall.proofs.memory.Memory.step.Goals.{in-Some+in_default-recall, in_default}
use Rattle.recall.proofs.memory.Memory.step.Goals as goal

pub returns-in-Some-recall-clause-steps : goal.returns-in-Some-recall-clause-steps
returns-in-Some-recall-clause-steps c =
    recalled_step _ _ c.requires.tree c.requires.behind _ c.in-Some.is c.in-Some-recall.ensures.1 c.copy.ensures

pub remember-requires-clause-made : goal.remember-requires-clause-made
remember-requires-clause-made c =
    let same : c.match-from.from ≡ c.args.from = elim c.match-from.branch [
      | in-Some+in_default-recall w ↦ w.from-is ∙ sym w.in-Some.is
      | in_default w ↦ w.from-is
    ] in
    rw same (made_step _ _ c.requires.tree c.requires.behind c.step_back.ensures)
