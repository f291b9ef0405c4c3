-- A text read byte by byte: one byte more, and what the last set tells of the form.
use Rattle.std.proofs.Common.{◌≡◌, ℕ, ◌+◌, ◌-◌, ◌<◌, ◌≤◌, true, false, Ok, Err, List, [], ◌∷◌, ◌++◌, length, get_or, take, drop, Decides, sym, refl, ap, ◌∙◌, subst, inl, inr, append-nil, arith, take-add}
use Rattle.std.proofs.lemmas.List.{take_more, take_all}
use Rattle.std.proofs.lemmas.Bool.{cases_lt, both_ways}
use Rattle.lens.specs.Forms.{Text, Form, Matches}
use Rattle.bits.specs.Bits.{bit}
use Rattle.reach.specs.Closed.{Closed}
use Rattle.pairs.specs.Pairs.{Stays}
use Rattle.viable.specs.declared.reading.Break.{Break}
use Rattle.viable.specs.Moves.{Quiet}
use Rattle.viable.specs.Viable.{Viable, BreaksAt}
use Rattle.viable.specs.States.{Reader, After, GoesOn, Advanced, Follows, Expects, ReadsText}
use Rattle.viable.proofs.Fronts.{viable_front, viable_cases}
use Rattle.viable.proofs.Sets.{after_more, next_decides, ends_decides, after_viable}

module _ (t : List ℕ) (n : ℕ) (stays : Stays n t) (some : 0 < n) (text : Text) where
  pub follow_more : {at v : ℕ} {set mid copy set' : List ℕ} → at < length text → After t n (take at text) set →
      Advanced t n set (get_or text at 0) mid true → copy ≡ mid → Closed (Quiet t) n copy set' v → After t n (take (at + 1) text) set'
  follow_more {at} {v} {set} {mid} {copy} {set'} l after a is closed =
      let next = after_more t n stays some after (get_or text at 0) a (subst (λ z. Closed (Quiet t) n z set' v) is closed) in
      subst (λ u. After t n u set') (sym (take_more text at 0 l)) next

  module _ {set : List ℕ} {at e : ℕ} (follows : Follows t n text set at) (l : e < n) where
    module _ {f : Form} (r : Reader t e f) where
      longest : (k : ℕ) → at < k → k ≤ length text → Viable f (take k text) → ⊥
      longest k more within v =
          let less : at < length text = omega arith in
          let is : take k text ≡ take (at + 1) text ++ take (k - (at + 1)) (drop (at + 1) text) = ap (λ i. take i text) (omega arith) ∙ take-add (at + 1) (k - (at + 1)) text in
          let front : Viable f (take (at + 1) text) = viable_front (take (at + 1) text) (take (k - (at + 1)) (drop (at + 1) text)) (subst (λ u. Viable f u) is v) in
          let one : Viable f (take at text ++ get_or text at 0 ∷ []) = subst (λ u. Viable f u) (take_more text at 0 less) front in
          both_ways false refl ((next_decides t n stays some follows.after (get_or text at 0) false r (none less)).1 one)
        where
          none : at < length text → Decides false ((q : ℕ) × GoesOn t n set (get_or text at 0) q)
          none less = (λ e. absurd (both_ways false refl e), λ (q, g). absurd (follows.stuck less q g))

    pub reads_fits : length text ≤ at → bit set e ≡ true → ReadsText t e text (Ok tt)
    reads_fits all ends = record {
      says = λ f r. subst (λ u. Matches f u) (take_all at text all) ((ends_decides t n stays follows.after l r).0 ends);
    }

    pub reads_breaks : (b : Break) → b.at ≡ at → b.ends ≡ bit set e → Expects t n set 256 b.next.words →
        (length text ≤ at → bit set e ≡ false) → ReadsText t e text (Err b)
    reads_breaks b is_at is_ends expects unended = record { says = says }
      where
        says : (f : Form) → Reader t e f → BreaksAt f text b
        says f r = record {
          unfit = unfit;
          within = omega (arith, follows.within);
          viable = rw is_at (after_viable t n stays follows.after r);
          longest = rw is_at (longest r);
          next = λ x below. rw is_at (next x below);
          ends = rw (is_at, is_ends) decides;
          goes_on = elim (viable_cases r.ranged (after_viable t n stays follows.after r)) [
            | inl m ↦ inl (is_ends ∙ decides.1 m)
            | inr (x, below, v) ↦ inr (x, below, (next x below).1 v)
          ];
        }
          where
            next : (x : ℕ) → x < 256 → Decides (bit b.next.words x) (Viable f (take at text ++ x ∷ []))
            next x below = next_decides t n stays some follows.after x (bit b.next.words x) r (expects.each x below)

            decides : Decides (bit set e) (Matches f (take at text))
            decides = ends_decides t n stays follows.after l r

            -- Behind the whole text, the end isn't come to; before it, the text goes on.
            unfit : Matches f text → ⊥
            unfit m = elim (cases_lt at (length text)) [
              | inl less ↦ longest r (length text) less (omega arith) ([], subst (λ u. Matches f u) (sym (append-nil _ ∙ take_all (length text) text (omega arith))) m)
              | inr all ↦ both_ways (bit set e) (unended all) (decides.1 (subst (λ u. Matches f u) (sym (take_all at text all)) m))
            ]
