-- How a row under construction becomes longer. Not here: which bytes are written (specs/Built).
use Rattle.std.proofs.Common.{◌≡◌, ℕ, ◌+◌, ◌-◌, ◌^◌, ◌≤◌, min, List, ◌∷◌, ◌++◌, length, take, drop, ap, ◌∙◌, ap₂, append_assoc, arith, length-append, length-drop, take-append-drop}
use Rattle.std.proofs.lemmas.List.{take_all, take_at, drop_at, take-append-le, drop-append-le}
use Rattle.std.specs.List.{insert, between}
use Rattle.notation.specs.Built.{Becomes}

-- k bytes more, which are written wherever the row still fits.
pub longer : (f : List ℕ → List ℕ) (k : ℕ) (bytes bytes' : List ℕ) (total total' : ℕ) → ((s : List ℕ) → length (f s) ≡ length s + k) → total' ≡ min (total + k) (2 ^ 64 - 1) → (total + k ≤ 1024 → bytes' ≡ f bytes) → Becomes bytes total bytes' total' f
longer f k bytes bytes' total total' lengthens adds writes = record {
  stands = λ s h. record {
    long = omega (arith, h.long, lengthens s);
    kept = λ fits.
        let room : total + k ≤ 1024 = omega arith in
        let before : total ≤ 1024 = omega arith in
        writes room ∙ ap f (h.kept before);
  };
}

pub length_inserted : (at tag : ℕ) (s : List ℕ) → length (insert s at tag) ≡ length s + 1
length_inserted at tag s =
    omega (arith, length-append (take at s) (tag ∷ drop at s), simp length-append at (ap length (take-append-drop at s)))

-- The part from `at` on once more, which is written wherever the row still fits.
pub twice : (at : ℕ) (bytes bytes' : List ℕ) (total total' : ℕ) → at ≤ total → total' ≡ min (total + (total - at)) (2 ^ 64 - 1) → (total' ≤ 1024 → bytes' ≡ bytes ++ drop at bytes) → Becomes bytes total bytes' total' (λ s. s ++ drop at s)
twice at bytes bytes' total total' inside adds writes = record {
  stands = λ s h. record {
    long = omega (arith, h.long, length-append s (drop at s), length-drop at s);
    kept = λ fits.
        let before : total ≤ 1024 = omega arith in
        writes fits ∙ ap (λ x. x ++ drop at x) (h.kept before);
  };
}

pub to_end : (at n : ℕ) (xs : List ℕ) → length xs ≡ n → between at n xs ≡ drop at xs
to_end at n xs e = take_all (n - at) (drop at xs) (omega (arith, length-drop at xs))

-- ---- one change after another

pub joined : {f g : List ℕ → List ℕ} {a b c : List ℕ} {k m n : ℕ} → Becomes a k b m f → Becomes b m c n g → Becomes a k c n (λ s. g (f s))
joined p q = record { stands = λ s h. q.stands _ (p.stands s h) }

-- Two texts written one behind the other are one text.
pub behind : (x y : List ℕ) {a b c : List ℕ} {k m n : ℕ} → Becomes a k b m (λ s. s ++ x) → Becomes b m c n (λ s. s ++ y) → Becomes a k c n (λ s. s ++ (x ++ y))
behind x y p q = record { stands = λ s h. rw (append_assoc s x y) at (q.stands _ (p.stands s h)) }

-- ---- a form, and the same form any number of times

abbrev once_more : ℕ → List ℕ → List ℕ
once_more at s = take at s ++ 2 ∷ (drop at s ++ 4 ∷ drop at s)

abbrev tagged_twice : ℕ → ℕ → List ℕ → List ℕ
tagged_twice at end s = insert (insert (s ++ drop at s) end 4) at 2

same_length : (at end : ℕ) (s : List ℕ) → length (tagged_twice at end s) ≡ length (once_more at s)
same_length at end s =
    omega (
      arith,
      length_inserted at 2 (insert (s ++ drop at s) end 4),
      length_inserted end 4 (s ++ drop at s),
      length-append s (drop at s),
      length-append (take at s) (2 ∷ (drop at s ++ 4 ∷ drop at s)),
      length-append (drop at s) (4 ∷ drop at s),
      simp length-append at (ap length (take-append-drop at s)),
    )

same_bytes : (at end : ℕ) (s : List ℕ) → length s ≡ end → at ≤ length s → tagged_twice at end s ≡ once_more at s
same_bytes at end s e h =
    let inner : insert (s ++ drop at s) end 4 ≡ s ++ 4 ∷ drop at s = ap₂ (λ x y. x ++ 4 ∷ y) (take_at s (drop at s) end e) (drop_at s (drop at s) end e) in
    ap (λ t. insert t at 2) inner
    ∙ ap₂ (λ x y. x ++ 2 ∷ y) (take-append-le at s (4 ∷ drop at s) h) (drop-append-le at s (4 ∷ drop at s) h)

pub form_more : (at end : ℕ) {a b c d : List ℕ} {k l m n : ℕ} → at ≤ k → end ≡ k → Becomes a k b l (λ s. s ++ drop at s) → Becomes b l c m (λ s. insert s end 4) → Becomes c m d n (λ s. insert s at 2) → Becomes a k d n (once_more at)
form_more at end inside is p q r = record {
  stands = λ s h.
      let last = r.stands _ (q.stands _ (p.stands s h)) in
      record {
        long = omega (arith, last.long, same_length at end s);
        kept = λ fits.
            let short : length s ≡ end = omega (arith, last.long, same_length at end s, h.long, is, length-append (take at s) (2 ∷ (drop at s ++ 4 ∷ drop at s)), length-append (drop at s) (4 ∷ drop at s), simp length-append at (ap length (take-append-drop at s))) in
            last.kept fits ∙ same_bytes at end s short (omega (arith, is, short, inside));
      };
}
