-- Remembered steps: that they last when a row is kept, a slot is taken and a step is noted; what a step that was made leads to;
-- and that a step that is remembered is the one that would be made.
use Rattle.std.proofs.Common.{◌≡◌, ℕ, ◌+◌, ◌-◌, ◌*◌, ◌<◌, ◌≤◌, Bool, false, not, ◌&&◌, List, [], ◌∷◌, ◌++◌, length, get_or, set, take, drop, replicate, length-take-le, length-drop, Option, Some, None, SomeIff, IfSome, Decides, sym, refl, ap, ◌∙◌, subst, inl, inr, arith, get_or-set_other, get_or-set_same}
use borrow.Author.Tests.{clash}
use borrow.Rule.Slice.PartMut.{put_mid}
use Rattle.std.proofs.lemmas.Grind.{elements}
use Rattle.std.proofs.lemmas.Bool.Decides.{Decides-at}
use Rattle.std.proofs.lemmas.Bool.{cases_eq, cases_lt}
use Rattle.lens.specs.Forms.{Text}
use Rattle.bits.specs.Bits.{bit}
use Rattle.trees.specs.declared.tree.Tree.{Tree}
use Rattle.trees.specs.declared.step.Spot.{Spot}
use Rattle.trees.specs.Rows.{Starts, Behind, Steps, row_at}
use Rattle.trees.proofs.Told.{told_begins}
use Rattle.trees.proofs.Kept.{sure_less, sure_decides, stands_within}
use Rattle.trees.proofs.Tables.{row_within}
use Rattle.recall.specs.declared.memory.Memory.{Memory}
use Rattle.recall.specs.Slots.{width, slot_bit, Keeps, Copies, SameSlots}
use Rattle.recall.specs.Recalls.{Leads, Recalls}
use Rattle.recall.specs.Memory.{KnownBehind, MadeStep, IsSameRoom, Takes, Notes}

-- What a memory keeps as a fact of its own, with its proof.
pub recalls_of : (memory : Memory) → Recalls memory.tree memory.rows.now memory.next.now memory.used
recalls_of memory = record { steps = λ k b to l small is. (sure_less memory.recalls (λ r. (r.steps k b to l small is).0), leads k b to l small is) }
  where
    leads : (k b to : ℕ) → k < memory.used → b < 256 → get_or memory.next.now (256 * k + b) 0 ≡ to + 1 → Leads memory.tree memory.rows.now k b to
    leads k b to l small is = record {
      tells = λ c t starts. record {
        tells = λ q f σ low at.
            sure_decides memory.recalls _ (told_begins f σ (b ∷ (c ∷ t)))
            (λ r. ((r.steps k b to l small is).1.tells c t starts).tells q f σ low at);
      };
    }

-- Rows that agree on the nodes of a tree tell the same.
pub starts_like : (tree : Tree) {row row' : ℕ → Bool} {t : Text} → ((q : ℕ) → q < tree.size → row' q ≡ row q) → Starts tree row 0 t → Starts tree row' 0 t
starts_like tree same starts =
    record { tells = λ q f σ low at. Decides-at _ _ (same q (stands_within tree at).1) (starts.tells q f σ low at) }

-- A row is kept in the slot behind the used ones, with the same row in the slot `to`.
module _ (tree : Tree) {bits rows rows' : List ℕ} {row used : ℕ} (keeps : Keeps tree.size bits row rows rows' used tree.size) where
  old_rows : (k : ℕ) → k < used → (q : ℕ) → q < tree.size → slot_bit tree.size rows' k q ≡ slot_bit tree.size rows k q
  old_rows k l q q_in = let before = row_within k used (width tree.size) l in keeps.before (32 * (k * width tree.size) + q) (omega arith)

  pub kept_row : {to : ℕ} → SameSlots tree.size rows' to used → (q : ℕ) → q < tree.size → slot_bit tree.size rows' to q ≡ bit bits (row + q)
  kept_row same q q_in = same.same q q_in ∙ keeps.here q q_in

  pub recalls_kept : {next : List ℕ} → Recalls tree rows next used → Recalls tree rows' next used
  recalls_kept recalls = record {
    steps = λ k b to l small is.
        let (there, leads) = recalls.steps k b to l small is in
        (there, record { tells = λ c t starts. starts_like tree (old_rows to there) (leads.tells c t (starts_like tree (λ q q_in. sym (old_rows k l q q_in)) starts)) });
  }

  pub leads_kept : {k b to : ℕ} → k < used → SameSlots tree.size rows' to used →
      ((c : ℕ) (t : Text) → Starts tree (slot_bit tree.size rows k) 0 (c ∷ t) → Starts tree (row_at bits row) 0 (b ∷ (c ∷ t))) → Leads tree rows' k b to
  leads_kept {k} l same leads = record {
    tells = λ c t starts. starts_like tree (kept_row same) (leads c t (starts_like tree (λ q q_in. sym (old_rows k l q q_in)) starts));
  }

-- A slot may be taken.
pub recalls_taken : {tree : Tree} {rows next next' : List ℕ} {used slots r : ℕ} → Takes next next' used slots r → Recalls tree rows next used → Recalls tree rows next' r
recalls_taken {tree} {rows} {next} {next'} {used} {slots} {r} takes recalls = record { steps = steps }
  where
    steps : (k b to : ℕ) → k < r → b < 256 → get_or next' (256 * k + b) 0 ≡ to + 1 → (to < r) × Leads tree rows k b to
    steps k b to l small is = elim (cases_lt k used) [
      | inl old ↦
          let (there, leads) = recalls.steps k b to old small (sym (takes.kept k b old small) ∙ is) in
          let low = takes.low in
          (omega arith, leads)
      | inr new ↦
          let high = takes.high in
          let here : k ≡ used = omega arith in
          let fresh = takes.fresh (omega arith) b small in
          absurd (omega (arith, sym fresh ∙ ap (λ k. get_or next' (256 * k + b) 0) (sym here) ∙ is))
    ]

-- A step is noted.
pub notes_set : {next : List ℕ} {slot byte to : ℕ} → 256 * slot + 256 ≤ length next → byte < 256 → Notes next (set next (256 * slot + byte) (to + 1)) slot byte to
notes_set {next} {slot} {byte} {to} long small = record {
  each = λ k b l. elim (cases_eq (256 * k + b) (256 * slot + byte)) [
    | inl same ↦ inr (
      omega arith,
      omega arith,
      ap (λ i. get_or (set next (256 * slot + byte) (to + 1)) i 0) same ∙ get_or-set_same next (256 * slot + byte) (to + 1) 0 (omega arith),
    )
    | inr other ↦ inl (get_or-set_other next (256 * slot + byte) (256 * k + b) (to + 1) 0 other)
  ];
}

pub recalls_noted : {tree : Tree} {rows next next' : List ℕ} {used slot byte to : ℕ} → Notes next next' slot byte to → to < used → Leads tree rows slot byte to →
    Recalls tree rows next used → Recalls tree rows next' used
recalls_noted {tree} {rows} {next} {next'} {used} {slot} {byte} {to} notes there leads recalls = record { steps = steps }
  where
    steps : (k b end : ℕ) → k < used → b < 256 → get_or next' (256 * k + b) 0 ≡ end + 1 → (end < used) × Leads tree rows k b end
    steps k b end l small is = elim (notes.each k b small) [
      | inl same ↦ recalls.steps k b end l small (sym same ∙ is)
      | inr (from, by, noted) ↦
          let same : to ≡ end = omega (arith, sym noted ∙ is) in (
            subst (λ to. to < used) same there,
            subst (λ to. Leads tree rows k b to) same (subst (λ k. Leads tree rows k b to) (sym from) (subst (λ b. Leads tree rows slot b to) (sym by) leads)),
          )
    ]

-- A step at a spot, from the row of a slot.
not_last : {c : ℕ} {t : Text} {last : Bool} → last ≡ false → Decides last (c ∷ t ≡ [])
not_last {c} {t} e = (λ yes. absurd (clash (sym e ∙ yes)), λ none. absurd (some none))
  where
    some : c ∷ t ≡ [] → ⊥
    some e = let z : ◌≡◌ {A = ℕ} 0 1 = cc in omega arith

module _ (memory : Memory) (spot : Spot) (same : spot.tree ≡ memory.tree) {old : List ℕ} {from : Option ℕ}
    (behind : KnownBehind memory old spot from) where
  agree : (k : ℕ) → from ≡ Some k → (q : ℕ) → q < spot.tree.size → not spot.last && bit old (spot.row + spot.tree.size + q) ≡ slot_bit memory.tree.size memory.rows.now k q
  agree k is q l = ap (λ b. not b && bit old (spot.row + spot.tree.size + q)) (behind.more k is) ∙ behind.known.same k is q (omega (arith, ap (λ t. t.size) same))

  -- The row behind the spot is that of the slot.
  behind_slot : {c : ℕ} {t : Text} (k : ℕ) → from ≡ Some k → Starts spot.tree (slot_bit memory.tree.size memory.rows.now k) 0 (c ∷ t) → Behind old spot (c ∷ t)
  behind_slot k is starts = record { starts = starts_like spot.tree (agree k is) starts; ends = not_last (behind.more k is) }

  -- A step that was made leads from the slot to the new row.
  pub made_step : {new : List ℕ} → Steps spot old new 0 → MadeStep memory new spot from
  made_step {new} steps = record {
    there = behind.known.there;
    leads = λ k is c t starts.
        subst (λ tree. Starts tree (row_at new spot.row) 0 (spot.byte ∷ (c ∷ t))) same
        (steps.tells (c ∷ t) (behind_slot k is (subst (λ tree. Starts tree (slot_bit memory.tree.size memory.rows.now k) 0 (c ∷ t)) (sym same) starts)));
  }

  -- A step that is remembered, once the row that it leads to is copied.
  pub recalled_step : {new : List ℕ} {to : ℕ} (k : ℕ) → from ≡ Some k → Leads memory.tree memory.rows.now k spot.byte to →
      Copies memory.tree.size memory.rows.now to old new spot.row memory.tree.size → Steps spot old new 0
  recalled_step {new} {to} k is leads copies = record { tells = tells; kept = λ j l. copies.behind j (omega (arith, ap (λ t. t.size) same)) }
    where
      tells : (t : Text) → Behind old spot t → Starts spot.tree (row_at new spot.row) 0 (spot.byte ∷ t)
      tells [] stands = absurd (clash (sym (behind.more k is) ∙ stands.ends.1 refl))
      tells (c ∷ t) stands =
          subst (λ tree. Starts tree (row_at new spot.row) 0 (spot.byte ∷ (c ∷ t))) (sym same)
          (starts_like memory.tree (λ q l. copies.here q l)
          (leads.tells c t (subst (λ tree. Starts tree (slot_bit memory.tree.size memory.rows.now k) 0 (c ∷ t)) same (starts_like spot.tree (λ q l. sym (agree k is q l)) stands.starts))))

-- What is known of the step from a slot by a byte: one more than where it leads is kept, or 0.
pub recalled_is : (memory : Memory) (k b : ℕ) (r : Option ℕ) → k < memory.used → b < 256 →
    SomeIff r (1 ≤ get_or memory.next.now (256 * k + b) 0) (get_or memory.next.now (256 * k + b) 0 - 1) →
    IfSome r (λ to. (to < memory.used) × Leads memory.tree memory.rows.now k b to)
recalled_is memory k b None l small is = tt
recalled_is memory k b (Some to) l small is = (recalls_of memory).steps k b to l small (omega (arith, is.0, is.1))

-- Words that were filled with zeros.
module _ (xs rest : List ℕ) (a m : ℕ) (inside : a ≤ length xs) where
  filled_before : (i : ℕ) → i < a → get_or (take a xs ++ (replicate m 0 ++ rest)) i 0 ≡ get_or xs i 0
  filled_before i l = grind (arith, elements)

  filled_here : (b : ℕ) → b < m → get_or (take a xs ++ (replicate m 0 ++ rest)) (a + b) 0 ≡ 0
  filled_here b l = grind (arith, elements)

pub takes_filled : {next zeros : List ℕ} {k slots n m : ℕ} → n ≡ 256 → m ≡ 256 → zeros ≡ replicate m 0 → k + 1 ≤ slots → 256 * slots ≤ length next →
    Takes next (put_mid (256 * k) n next zeros) k slots (k + 1)
takes_filled {next} {zeros} {k} {slots} {n} {m} part size is within long =
    subst (λ zeros. Takes next (put_mid (256 * k) n next zeros) k slots (k + 1)) (sym is) (record {
      low = omega arith;
      high = omega arith;
      within = within;
      kept = λ j b l small. filled_before next (drop n (drop (256 * k) next)) (256 * k) m (omega arith) (256 * j + b) (omega arith);
      fresh = λ l b small. filled_here next (drop n (drop (256 * k) next)) (256 * k) m (omega arith) b (omega arith);
    })

pub length-filled : (xs zeros : List ℕ) (a n : ℕ) → length zeros ≡ n → a + n ≤ length xs → length (put_mid a n xs zeros) ≡ length xs
length-filled xs zeros a n size inside = grind (arith, elements)

pub filled_part : (xs : List ℕ) (a n : ℕ) → n ≡ 256 → a + 256 ≤ length xs → length (take n (drop a xs)) ≡ 256
filled_part xs a n part inside = length-take-le n (drop a xs) (simp length-drop (omega arith)) ∙ part

-- A row was kept, and then a used slot was found for it.
module _ {old kept placed : Memory} {bits : List ℕ} {row to : ℕ} (room : IsSameRoom old kept) (used : kept.used ≡ old.used)
    (keeps : Keeps old.tree.size bits row old.rows.now kept.rows.now old.used old.tree.size)
    (room' : IsSameRoom kept placed) (rows : placed.rows.now ≡ kept.rows.now) (same : SameSlots kept.tree.size kept.rows.now to kept.used) where
  there : SameSlots old.tree.size kept.rows.now to old.used
  there = subst (λ n. SameSlots n kept.rows.now to old.used) (ap (λ t. t.size) room.tree) (subst (λ u. SameSlots kept.tree.size kept.rows.now to u) used same)

  pub placed_leads : {spot : Spot} {from : Option ℕ} {k : ℕ} → MadeStep old bits spot from → row ≡ spot.row → from ≡ Some k → Leads placed.tree placed.rows.now k spot.byte to
  placed_leads {spot} {from} {k} made begin is =
      subst (λ tree. Leads tree placed.rows.now k spot.byte to) (sym (room'.tree ∙ room.tree))
      (subst (λ rows. Leads old.tree rows k spot.byte to) (sym rows)
      (leads_kept old.tree keeps (made.there k is) there
      (λ c t starts. subst (λ row. Starts old.tree (row_at bits row) 0 (spot.byte ∷ (c ∷ t))) (sym begin) (made.leads k is c t starts))))
