-- Where a part ends, by what begins there and by the marks.
use Rattle.std.proofs.Common.{◌≡◌, ℕ, ◌+◌, ◌-◌, ◌<◌, ◌≤◌, Bool, true, false, List, length, HoldsAt, Option, Some, None, MatchOption, sym, refl, ◌∙◌, subst, inl, inr, le_refl, zero-le, arith}
use Rattle.std.specs.List.{AllWithin, range_with_len}
use Rattle.std.proofs.lemmas.List.FromFn.{length-range_with_len, get_or-range_with_len}
use Rattle.std.proofs.lemmas.Bool.{cases_order, both_ways}
use Rattle.marks.specs.Cut.{Marked, whole, Cut, cut_none, cut_some}
use Rattle.marks.proofs.Cuts.{cut_within}

module _ {words : List ℕ} {S M : ℕ → ℕ → Bool} where
  -- Where nothing begins, a part is empty.
  pub part_empty : {q i e : ℕ} → Cut words S M (whole q) i e → S i q ≡ false → i ≡ e
  part_empty (cut_none s) t = refl
  part_empty (cut_some s c m) t = absurd (both_ways _ t s)

  part_marked : {q i e : ℕ} → Cut words S M (whole q) i e → S i q ≡ true → Marked M q i e
  part_marked (cut_none s) t = absurd (both_ways _ s t)
  part_marked (cut_some s c m) t = m

  -- The first mark from i on stands at the last place.
  pub part_first_mark : {q i e last : ℕ} → Cut words S M (whole q) i e → S i q ≡ true → i ≤ last → M last q ≡ true →
      ((j : ℕ) → i ≤ j → j < last → M j q ≡ false) → last + 1 ≡ e
  part_first_mark {q} {i} {e} {last} cut s low here before =
      let m = part_marked cut s in
      let l = m.some in
      elim (cases_order last (e - 1)) [
        | inl same ↦ omega arith
        | inr other ↦ elim other [
          | inl less ↦ absurd (both_ways _ (m.before last low (omega arith)) here)
          | inr more ↦ absurd (both_ways _ (before (e - 1) (omega arith) more) m.last)
        ]
      ]

  -- So there is one before the end of the text.
  pub part_has_mark : {q i e n last : ℕ} → ((i q : ℕ) → S i q ≡ true → i < n) → Cut words S M (whole q) i e → S i q ≡ true → n ≤ last →
      ((j : ℕ) → i ≤ j → j < last → M j q ≡ false) → ⊥
  part_has_mark {q} {i} {e} {n} {last} bound cut s past before =
      let m = part_marked cut s in
      let l = m.some in
      let b = bound i q s in
      let w : e ≤ n = cut_within bound cut (omega arith) in
      both_ways _ (before (e - 1) (omega arith) (omega arith)) m.last

-- A search from `low` on, of m places, passed those before the place k of the range, since they are unmarked.
unmarked : (mark : ℕ → Bool) (low m k : ℕ) → k ≤ m → AllWithin (λ j. mark j ≡ false) (range_with_len low m) 0 k →
    (j : ℕ) → low ≤ j → j < low + k → mark j ≡ false
unmarked mark low m k within none j from before =
    let place : low + (j - low) ≡ j = omega arith in
    subst (λ j. mark j ≡ false) (get_or-range_with_len low m (j - low) 0 (omega arith) ∙ place) (none (j - low) 0 zero-le (omega arith))

-- What a search for a mark among `places` found, none or the first one.
abbrev Searched : (mark : ℕ → Bool) (places : List ℕ) → Option ℕ → Type 0
Searched mark places first =
    MatchOption first (AllWithin (λ j. mark j ≡ false) places 0 (length places))
    (λ last. (mark last ≡ true) × (k : ℕ) × (k < length places) × HoldsAt (λ j. j ≡ last) places k × AllWithin (λ j. mark j ≡ false) places 0 k)

-- So the part ends behind it.
pub part_found : {words : List ℕ} {S M : ℕ → ℕ → Bool} {e : ℕ} (q i n : ℕ) (first : Option ℕ) (r : ℕ) → ((i q : ℕ) → S i q ≡ true → i < n) →
    Cut words S M (whole q) i e → S i q ≡ true → Searched (λ j. M j q) (range_with_len i (n - i)) first →
    MatchOption first (r ≡ n) (λ last. r ≡ last + 1) → r ≡ e
part_found {M = M} q i n None r bound cut s none is =
    let long = length-range_with_len i (n - i) in
    let l = bound i q s in
    absurd (part_has_mark bound cut s (le_refl n) (λ j from before. unmarked (λ j. M j q) i (n - i) _ (omega arith) none j from (omega arith)))
part_found {M = M} q i n (Some last) r bound cut s (here, k, inside, place, none) is =
    let long = length-range_with_len i (n - i) in
    let at : i + k ≡ last = sym (get_or-range_with_len i (n - i) k 0 (omega arith)) ∙ place 0 in
    is ∙ part_first_mark cut s (omega arith) here (λ j from before. unmarked (λ j. M j q) i (n - i) k (omega arith) none j from (omega arith))
