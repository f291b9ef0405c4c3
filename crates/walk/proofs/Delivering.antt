-- What was counted and written is one text.
use Rattle.std.proofs.Common.{◌≡◌, ℕ, ◌^◌, ◌<◌, ◌≤◌, List, ◌++◌, length, take, drop, sym, ap, ◌∙◌, subst, inl, inr, zero-add, arith, take_at, drop_at}
use Rattle.std.proofs.lemmas.Bool.{cases_lt}
use Rattle.lens.specs.Forms.{Text}
use Rattle.walk.specs.Turns.{GivesSome}
use Rattle.walk.specs.Counts.{Counted}
use Rattle.walk.specs.Writes.{Wrote}
use Rattle.walk.specs.Delivers.{Delivered}

module _ {R : Text → Type 0} where
  pub delivered : {o o' : List ℕ} {b n : ℕ} → ((u w : Text) → R u → R w → u ≡ w) → b ≤ length o → length o < 2 ^ 63 →
      GivesSome R (Counted 0 b) → GivesSome R (λ u. Wrote o 0 o' n u) → Delivered R o o' b
  delivered {o} {o'} {b} {n} one room short g h = record { text = g.out; holds = g.holds; long = long; front = front; rest = rest }
    where
      long : b ≡ length g.out
      long = elim (cases_lt (length g.out) (2 ^ 64)) [
        | inl few ↦ omega (arith, g.took.few (omega (arith, zero-add (length g.out))), zero-add (length g.out))
        | inr many ↦ absurd (omega (arith, g.took.many (omega (arith, zero-add (length g.out)))))
      ]

      took : Wrote o 0 o' n g.out
      took = subst (λ u. Wrote o 0 o' n u) (one h.out g.out h.holds g.holds) h.took

      is : o' ≡ g.out ++ drop b o
      is = took.fits (omega (arith, zero-add (length g.out), long)) ∙ ap (λ k. g.out ++ drop k o) (zero-add (length g.out) ∙ sym long)

      front : take b o' ≡ g.out
      front = ap (take b) is ∙ take_at g.out (drop b o) b (sym long)

      rest : drop b o' ≡ drop b o
      rest = ap (drop b) is ∙ drop_at g.out (drop b o) b (sym long)
