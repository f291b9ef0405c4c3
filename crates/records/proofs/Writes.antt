-- The records that stand in words after one was written.
use Rattle.std.proofs.Common.{◌≡◌, ℕ, ◌+◌, ◌-◌, ◌*◌, ◌<◌, ◌≤◌, ◌≢◌, ◌⊎◌, List, [], ◌∷◌, length, get_or, take, drop, refl, ap, ◌∙◌, inl, inr, add-zero, rules, arith}
use borrow.Rule.Slice.PartMut.{put_mid}
use Rattle.std.proofs.lemmas.List.{places, get_or_append_left, get_or-append_right, get_or-take, get_or-drop, length-take-le}
use Rattle.std.proofs.lemmas.Bool.{cases_lt}
use Rattle.records.specs.Records.{record_at, PutsRecord}

-- Four words are their list.
four_words : (l : List ℕ) → length l ≡ 4 → get_or l 0 0 ∷ get_or l 1 0 ∷ get_or l 2 0 ∷ get_or l 3 0 ∷ [] ≡ l
four_words [] e = absurd (omega arith)
four_words (a ∷ []) e = absurd (omega arith)
four_words (a ∷ b ∷ []) e = absurd (omega arith)
four_words (a ∷ b ∷ c ∷ []) e = absurd (omega arith)
four_words (a ∷ b ∷ c ∷ d ∷ []) e = refl
four_words (a ∷ b ∷ c ∷ d ∷ x ∷ l) e = absurd (omega arith)

module _ (old : List ℕ) (k : ℕ) (inside : 4 * k + 3 < length old) (fields : List ℕ) (four : length fields ≡ 4) where
  -- The words with the four from 4 * k on written.
  abbrev written : List ℕ
  written = put_mid (4 * k) (4 * k + 4 - 4 * k) old fields

  front_long : length (take (4 * k) old) ≡ 4 * k
  front_long = length-take-le (4 * k) old (omega arith)

  word_here : (i : ℕ) → i < 4 → get_or written (4 * k + i) 0 ≡ get_or fields i 0
  word_here i few =
      get_or-append_right (take (4 * k) old) _ (4 * k) (4 * k + i) 0 front_long (omega arith)
      ∙ get_or_append_left fields _ 0 (4 * k + i - 4 * k) (omega arith) ∙ ap (λ i. get_or fields i 0) (omega arith)

  word_kept : (j : ℕ) → (j < 4 * k) ⊎ (4 * k + 4 ≤ j) → get_or written j 0 ≡ get_or old j 0
  word_kept j (inl before) = get_or_append_left (take (4 * k) old) _ 0 j (omega (arith, front_long)) ∙ get_or-take (4 * k) old j 0 before
  word_kept j (inr behind) =
      get_or-append_right (take (4 * k) old) _ (4 * k) j 0 front_long (omega arith) ∙ get_or-append_right fields _ 4 (j - 4 * k) 0 four (omega arith)
      ∙ get_or-drop (4 * k + 4 - 4 * k) (drop (4 * k) old) (j - 4 * k - 4) 0 ∙ get_or-drop (4 * k) old _ 0 ∙ ap (λ i. get_or old i 0) (omega arith)

  pub puts_record : PutsRecord old k fields written
  puts_record = record { here = here; others = others; long = search (rules, places) }
    where
      here : record_at written k ≡ fields
      here =
          let w0 : get_or written (4 * k) 0 ≡ get_or fields 0 0 = rw add-zero at (word_here 0 (omega arith)) in
          rw (w0, word_here 1 (omega arith), word_here 2 (omega arith), word_here 3 (omega arith)) (four_words fields four)

      apart : (j i : ℕ) → j ≢ k → i < 4 → (4 * j + i < 4 * k) ⊎ (4 * k + 4 ≤ 4 * j + i)
      apart j i ne few = elim (cases_lt j k) [ inl less ↦ inl (omega arith) | inr more ↦ inr (let above : k < j = omega arith in omega arith) ]

      others : (j : ℕ) → j ≢ k → record_at written j ≡ record_at old j
      others j ne =
          let kept = λ (i : ℕ) (few : i < 4). word_kept (4 * j + i) (apart j i ne few) in
          let w0 : get_or written (4 * j) 0 ≡ get_or old (4 * j) 0 = rw add-zero at (kept 0 (omega arith)) in
          rw (w0, kept 1 (omega arith), kept 2 (omega arith), kept 3 (omega arith))
