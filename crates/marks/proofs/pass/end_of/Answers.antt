use Rattle.std.proofs.Common.{◌≡◌, ◌+◌, ◌-◌, MatchOption, true, false, length, refl, sym, rules}
use Rattle.std.proofs.lemmas.Iterator.{YieldsList-from_range, first_from_find}
use borrow.Author.Tests.{tests}
use Rattle.trees.specs.Cells.{cell_of}
use Rattle.marks.proofs.Places.{before_end}
use Rattle.marks.proofs.Ends.{part_found}
use Rattle.marks.proofs.pass.end_of.Goals as goal

pub returns : goal.returns
returns c = λ words e part.
    let n = c.args.nodes in
    let text = c.args.text.now in
    let marks = c.args.marks.now in
    let q = c.args.place in
    let i = c.args.at in
    let first =
    first_from_find _ _ _ (λ j. cell_of n marks j q ≡ true) (λ j. cell_of n marks j q ≡ false) c.find.ensures.ran
    (YieldsList-from_range i (length text) (length text - i) refl refl) (λ x f called. search (rules, tests)) (λ x f called. search (rules, tests)) in
    let is : MatchOption c.find.result (c.map_or.result ≡ length text) (λ last. c.map_or.result ≡ last + 1) = search (rules, tests) in
    part_found q i (length text) c.find.result c.map_or.result (before_end n text c.args.starts.now) part (sym c.if-not-begun_at.ensures) first is
