-- Rows in slots, after copying.
use Rattle.std.proofs.Common.{◌≡◌, ℕ, ◌+◌, ◌-◌, ◌*◌, ◌/◌, ◌%◌, ◌^◌, ◌<◌, ◌≤◌, eqb, List, length, get_or, take, drop, sym, ap, ◌∙◌, subst, inl, inr, le_refl, length-take-le, arith}
use Rattle.std.proofs.lemmas.Grind.{elements}
use Rattle.std.proofs.lemmas.List.{get_or-take, get_or-drop}
use Rattle.std.proofs.lemmas.Nat.{mul-le}
use Rattle.std.proofs.lemmas.Bool.{cases_lt}
use Rattle.bits.specs.Bits.{bit, PutsBits}
use Rattle.bits.proofs.Fields.{digit_mod}
use Rattle.trees.proofs.Tables.{row_within}
use Rattle.recall.specs.Slots.{width, slot_bit, Copies, SameSlots, Finds}

-- A bit of a slot, by its word.
slot_digit : (n : ℕ) (rows : List ℕ) (k w j : ℕ) → j < 32 → slot_bit n rows k (32 * w + j) ≡ eqb (get_or rows (k * width n + w) 0 / 2 ^ j % 2) 1
slot_digit n rows k w j l =
    let word : (32 * (k * width n) + (32 * w + j)) / 32 ≡ k * width n + w = omega arith in
    let place : (32 * (k * width n) + (32 * w + j)) % 32 ≡ j = omega arith in
    ap (λ i. eqb (get_or rows i 0 / 2 ^ ((32 * (k * width n) + (32 * w + j)) % 32) % 2) 1) word
    ∙ ap (λ p. eqb (get_or rows (k * width n + w) 0 / 2 ^ p % 2) 1) place

-- A word of a part of the rows, from f up to e.
pub part_word : (rows : List ℕ) (f e w : ℕ) → f + w < e → get_or (take (e - f) (drop f rows)) w 0 ≡ get_or rows (f + w) 0
part_word rows f e w l = get_or-take (e - f) (drop f rows) w 0 (omega arith) ∙ get_or-drop f rows w 0

copies_more : {n : ℕ} {rows : List ℕ} {k : ℕ} {old mid new : List ℕ} {row len value : ℕ} (w : ℕ) → len ≤ 32 → 32 * w + len ≤ n →
    ((j : ℕ) → j < len → value / 2 ^ j % 2 ≡ get_or rows (k * width n + w) 0 / 2 ^ j % 2) →
    Copies n rows k old mid row (32 * w) → PutsBits mid (row + 32 * w) len value new → Copies n rows k old new row (32 * w + len)
copies_more {n} {rows} {k} {old} {mid} {new} {row} {len} {value} w short within digits copies puts = record {
  here = λ q l. elim (cases_lt q (32 * w)) [
    | inl before ↦ puts.others (row + q) (inl (omega arith)) ∙ copies.here q before
    | inr later ↦
        let j = q - 32 * w in
        let less : j < len = omega arith in
        let place : row + q ≡ row + 32 * w + j = omega arith in
        let here : 32 * w + j ≡ q = omega arith in
        ap (bit new) place ∙ puts.here j less ∙ ap (λ d. eqb d 1) (digits j less)
        ∙ sym (slot_digit n rows k w j (omega arith)) ∙ ap (λ q. slot_bit n rows k q) here
  ];
  behind = λ j l. puts.others j (inr (omega arith)) ∙ copies.behind j l;
}

module _ {n : ℕ} {rows : List ℕ} {k : ℕ} {old mid new : List ℕ} {row first : ℕ} (begin : first ≡ k * width n) where
  pub copies_word : {value : ℕ} (w : ℕ) → 32 * w + 32 ≤ n → value ≡ get_or rows (first + w) 0 → Copies n rows k old mid row (32 * w) →
      PutsBits mid (row + 32 * w) 32 value new → Copies n rows k old new row (32 * (w + 1))
  copies_word w within is copies puts =
      let next : 32 * w + 32 ≡ 32 * (w + 1) = omega arith in
      subst (λ m. Copies n rows k old new row m) next
      (copies_more w (omega arith) within (λ j l. ap (λ v. v / 2 ^ j % 2) (is ∙ ap (λ f. get_or rows (f + w) 0) begin)) copies puts)

  pub copies_rest : {p : ℕ} → p ≡ 2 ^ (n % 32) → Copies n rows k old mid row (32 * (n / 32)) →
      PutsBits mid (row + 32 * (n / 32)) (n % 32) (get_or rows (first + n / 32) 0 % p) new → Copies n rows k old new row n
  copies_rest {p} power copies puts =
      let all : 32 * (n / 32) + n % 32 ≡ n = omega arith in
      subst (λ m. Copies n rows k old new row m) all
      (copies_more (n / 32) (omega arith) (omega arith)
      (λ j l. ap (λ p. get_or rows (first + n / 32) 0 % p / 2 ^ j % 2) power ∙ digit_mod (get_or rows (first + n / 32) 0) (n % 32) j l ∙ ap (λ f. get_or rows (f + n / 32) 0 / 2 ^ j % 2) begin)
      copies puts)

-- Slots of the same words
pub same_words : {n : ℕ} {rows : List ℕ} {k k' : ℕ} → ((w : ℕ) → w < width n → get_or rows (k * width n + w) 0 ≡ get_or rows (k' * width n + w) 0) → SameSlots n rows k k'
same_words {n} {rows} {k} {k'} words = record {
  same = λ q l.
      let whole : 32 * (q / 32) + q % 32 ≡ q = omega arith in
      let inside : q / 32 < width n = omega arith in
      ap (λ q. slot_bit n rows k q) (sym whole) ∙ slot_digit n rows k (q / 32) (q % 32) (omega arith)
      ∙ ap (λ w. eqb (w / 2 ^ (q % 32) % 2) 1) (words (q / 32) inside)
      ∙ sym (slot_digit n rows k' (q / 32) (q % 32) (omega arith)) ∙ ap (λ q. slot_bit n rows k' q) whole;
}

-- A slot whose words are those of the slot `used`, among the words in front of that one, cut into slots
pub found : {n : ℕ} {rows front part : List ℕ} {used k words size : ℕ} → words ≡ width n → size ≡ words → used * words ≤ length rows →
    front ≡ take (used * words) rows → part ≡ take words (drop (used * words) rows) → k * size < length front → part ≡ take size (drop (k * size) front) →
    Finds n rows used k
found {n} {rows} {front} {part} {used} {k} {words} {size} wide each inside begins row there chunk = record {
  before = before;
  same = same_words (λ w l. ap (λ m. get_or rows (k * m + w) 0) (sym wide) ∙ word w (omega (arith, wide)) ∙ ap (λ m. get_or rows (used * m + w) 0) wide);
}
  where
    there' : k * words < used * words
    there' = omega (arith, subst (λ s. k * s < length front) each there, ap length begins, length-take-le (used * words) rows inside)

    before : k < used
    before = elim (cases_lt k used) [ inl l ↦ l | inr past ↦ absurd (omega (arith, there', mul-le used words k words past (le_refl words))) ]

    here : (w : ℕ) → w < words → get_or part w 0 ≡ get_or rows (used * words + w) 0
    here w l = ap (λ p. get_or p w 0) row ∙ get_or-take words (drop (used * words) rows) w 0 l ∙ grind (arith, elements)

    from : (w : ℕ) → w < words → get_or part w 0 ≡ get_or rows (k * words + w) 0
    from w l =
        let within = row_within k used words before in
        ap (λ p. get_or p w 0) (subst (λ s. part ≡ take s (drop (k * s) front)) each chunk) ∙ get_or-take words (drop (k * words) front) w 0 l
        ∙ ap (λ f. get_or (drop (k * words) f) w 0) begins ∙ grind (arith, elements)

    word : (w : ℕ) → w < words → get_or rows (k * words + w) 0 ≡ get_or rows (used * words + w) 0
    word w l = sym (from w l) ∙ here w l
