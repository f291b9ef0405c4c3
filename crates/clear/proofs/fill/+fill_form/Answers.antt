use Rattle.std.proofs.Common.{Some, subst, arith}
use Rattle.rows.specs.Rows.{form_row, FormFine}
use Rattle.rows.specs.Nodes.{IsFormNode}
use Rattle.rows.proofs.Builds.{nowhere_first, nowhere_tagged}
use Rattle.rows.proofs.Tags.{builds_seq, builds_or}
use Rattle.pairs.proofs.Tables.{bounded_changed}
use Rattle.clear.proofs.FormNodes.{fills_nowhere, fills_empty, fills_one, fills_seq, fills_or, fills_many}
use Rattle.clear.proofs.fill.+fill_form.Goals as goal

-- Leaves
pub returns-in-Empty : goal.returns-in-Empty
returns-in-Empty t c =
    record {
      fills = fills_empty (rw c.in-Empty.is at c.in_ok-form_node.ensures) c.put_step.ensures;
      bounded = bounded_changed c.put_step.ensures (omega arith) c.requires.ready.bounded;
    }

pub returns-in-One : goal.returns-in-One
returns-in-One t c =
    let node = subst (λ n. IsFormNode c.args.row.now.bytes.now c.args.at (Some n)) c.in-One.is c.in_ok-form_node.ensures in
    record {
      fills = fills_one node.0 c.put_step-in-One.ensures;
      bounded = bounded_changed c.put_step-in-One.ensures (omega arith) c.requires.ready.bounded;
    }

-- Two parts
pub returns-in_err-second-in-Seq : goal.returns-in_err-second-in-Seq
returns-in_err-second-in-Seq t c =
    record {
      fills = rw c.from_residual-in_err-second-in-Seq.ensures (fills_nowhere (nowhere_tagged builds_seq (rw c.in-Seq.is at c.in_ok-form_node.ensures) (nowhere_first form_row FormFine form_row FormFine c.in_err-second-in-Seq.ensures)));
      bounded = c.requires.ready.bounded;
    }

pub returns-in_ok-fill_form-in-Seq : goal.returns-in_ok-fill_form-in-Seq
returns-in_ok-fill_form-in-Seq t c =
    record {
      fills = fills_seq (rw c.in-Seq.is at c.in_ok-form_node.ensures) c.in_ok-second-in-Seq.ensures c.put_step-in-Seq.ensures c.in_ok-fill_form-in-Seq.ensures.fills _ c.fill_form-in-Seq.ensures.fills;
      bounded = c.fill_form-in-Seq.ensures.bounded;
    }

pub returns-in_err-second-in-Or : goal.returns-in_err-second-in-Or
returns-in_err-second-in-Or t c =
    record {
      fills = rw c.from_residual-in_err-second-in-Or.ensures (fills_nowhere (nowhere_tagged builds_or (rw c.in-Or.is at c.in_ok-form_node.ensures) (nowhere_first form_row FormFine form_row FormFine c.in_err-second-in-Or.ensures)));
      bounded = c.requires.ready.bounded;
    }

pub returns-in_ok-fill_form-in-Or : goal.returns-in_ok-fill_form-in-Or
returns-in_ok-fill_form-in-Or t c =
    record {
      fills = fills_or (rw c.in-Or.is at c.in_ok-form_node.ensures) c.in_ok-second-in-Or.ensures c.put_step-in-Or.ensures c.in_ok-fill_form-in-Or.ensures.fills _ c.fill_form-in-Or-2.ensures.fills;
      bounded = c.fill_form-in-Or-2.ensures.bounded;
    }

-- One part
pub returns-in-Many : goal.returns-in-Many
returns-in-Many t c =
    record {
      fills = fills_many (rw c.in-Many.is at c.in_ok-form_node.ensures) c.put_step-in-Many.ensures _ c.fill_form-in-Many.ensures.fills;
      bounded = c.fill_form-in-Many.ensures.bounded;
    }
