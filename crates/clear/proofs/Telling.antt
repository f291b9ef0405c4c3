-- From a whole row laid into the table to whether its view is clear, and to the automaton of one side.
use Rattle.std.proofs.Common.{◌≡◌, ℕ, ◌<◌, ◌&&◌, List, ◌++◌, length, get_or, Some, None, Option, sym, refl, ap, ◌∙◌, subst, append-nil, arith}
use lib.Seq.{drop-length}
use Rattle.lens.specs.Views.{View}
use Rattle.rows.specs.Rows.{view_row, ViewFine, Encodes}
use Rattle.automata.proofs.Acting.{acts_alike}
use Rattle.pairs.proofs.Tables.{zeros_stop}
use Rattle.clear.specs.declared.side.Side.{Side}
use Rattle.clear.specs.declared.side.Side.TheVariants.{Source, Look}
use Rattle.pairs.specs.declared.answer.Answer.{Answer}
use Rattle.clear.specs.Sides.{side_form}
use Rattle.clear.specs.Filled.{Finding, Laid, Filled, ViewFills}
use Rattle.clear.specs.Verdict.{Tells, TellsSide, Lays}
use Rattle.clear.proofs.Asking.{decides_and, decides_as}
use Rattle.clear.proofs.Lengths.{view_long}
use Rattle.clear.proofs.Sides.{sides_sound, sides_complete}

-- The view that the bytes say stands from their beginning to their end.
laid_whole : {s : List ℕ} {v : View} → Encodes s v → Laid view_row ViewFine s 0 (length s) v
laid_whole {s} {v} e = record {
  sound = e.fine;
  less = subst (λ r. 0 < length r) e.row (view_long v);
  within = omega arith;
  laid = sym e.row ∙ sym (append-nil (view_row v)) ∙ ap (λ r. view_row v ++ r) (sym (drop-length s));
}

module _ {side : Side} {s t t' : List ℕ} where
  pub tells_some : {q : Finding} {r : Answer} → r.yes ≡ q.1.yes → ViewFills side s 0 (length s) t t' (Some q) → TellsSide side s r
  tells_some same a = record { tells = λ v e. rw same (a.fills v (length s) (laid_whole e) (λ w. omega arith)).decides }

  pub tells_none : {r : Answer} → ViewFills side s 0 (length s) t t' None → TellsSide side s r
  tells_none a = record { tells = λ v e. absurd (a.fills v (length s) (laid_whole e) (λ w. omega arith)) }

-- The same of the side alone, which was laid into a table of zeros.
module _ {side : Side} {s t t' : List ℕ} where
  laid_side : (r : Option Finding) (v : View) → ViewFills side s 0 (length s) t t' r → Encodes s v → Filled t t' 0 (length s) 0 (length s) (side_form side v)
  laid_side (Some q) v a e = (a.fills v (length s) (laid_whole e) (λ w. omega arith)).filled
  laid_side None v a e = absurd (a.fills v (length s) (laid_whole e) (λ w. omega arith))

  pub lays : (r : Option Finding) → ((k : ℕ) → k < length t → get_or t k 0 ≡ 0) → ViewFills side s 0 (length s) t t' r → Lays side s t'
  lays r zeros a = record {
    acts = λ v e. acts_alike (λ p w. w.1) (λ p w. refl) (laid_side r v a e).acts;
    stops = λ v e. (laid_side r v a e).kept (length s) (λ w. omega arith) ∙ zeros_stop t zeros (length s);
  }

pub tells_both : {s : List ℕ} {a b r : Answer} → r.yes ≡ a.yes && b.yes → TellsSide Source s a → TellsSide Look s b → Tells s r
tells_both {a = a} {b = b} same x y = record {
  tells = λ v e. rw same (decides_as (a.yes && b.yes) (λ p. sides_sound v p.0 p.1) (λ c. sides_complete v c) (decides_and a.yes b.yes (x.tells v e) (y.tells v e)));
}
