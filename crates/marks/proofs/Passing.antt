-- What a pass does to the marks, step by step.
-- Not here: that it may go on (Places).
use Rattle.std.proofs.Common.{◌≡◌, ℕ, ◌+◌, ◌-◌, ◌<◌, ◌≤◌, Bool, true, false, List, refl, ◌∙◌, subst, inl, inr, arith}
use Rattle.trees.specs.declared.nodes.Node.{Node}
use Rattle.trees.specs.declared.nodes.Node.TheVariants.{None, Empty, One, Seq, Or, Many, Same, Byte}
use Rattle.trees.specs.declared.tree.Tree.{Tree}
use Rattle.trees.specs.declared.scanned.Scanned.{Scanned}
use Rattle.trees.specs.Nodes.{node_at, EachPart, Under, Linked}
use Rattle.marks.specs.Cut.{Marked, Cuttable, whole, inner, series, Cut, cut_none, cut_some, cut_one, cut_byte, cut_seq, cut_left, cut_right, cut_many, cut_same, cut_stop, cut_more}
use Rattle.trees.specs.Cells.{cell, begun}
use Rattle.marks.specs.Passes.{Fresh, Stays, Cuts, Adds}
use Rattle.marks.proofs.Cuts.{cut_ordered, cut_kept, cut_kept_on}

-- Marks that stay

pub fresh_later : {i e : ℕ} {M : ℕ → ℕ → Bool} → i ≤ e → Fresh M i → Fresh M e
fresh_later l fresh = record { none = λ j p behind. fresh.none j p (omega arith) }

stays_none : {low i e : ℕ} {M : ℕ → ℕ → Bool} → i ≤ e → Fresh M i → Stays low M M i e
stays_none l fresh = record { fresh = λ j p behind. fresh.none j p (omega arith); kept = λ j p before. refl; above = λ j p low. refl }

stays_then : {low i m e : ℕ} (old mid new : ℕ → ℕ → Bool) → i ≤ m → Stays low old mid i m → Stays low mid new m e → Stays low old new i e
stays_then old mid new l a b =
    record {
      fresh = b.fresh;
      kept = λ j p before. b.kept j p (omega arith) ∙ a.kept j p before;
      above = λ j p less. b.above j p less ∙ a.above j p less;
    }

-- Fewer marks are spoken of.
stays_less : {low low' i i' e : ℕ} (old new : ℕ → ℕ → Bool) → low ≤ low' → i ≤ i' → Stays low' old new i' e → Stays low old new i e
stays_less old new l m a =
    record { fresh = a.fresh; kept = λ j p before. a.kept j p (omega arith); above = λ j p less. a.above j p (omega arith) }

-- The mark of the node q at the end of its part
module _ {q i e : ℕ} (old mid new : ℕ → ℕ → Bool) (l : i < e) (stays : Stays (q + 1) old mid i e) (adds : Adds mid new (e - 1) q) where
  stays_marked : Stays q old new i e
  stays_marked =
      record {
        fresh = λ j p behind. adds.others j p (inl (omega arith)) ∙ stays.fresh j p behind;
        kept = λ j p before. adds.others j p (inl (omega arith)) ∙ stays.kept j p before;
        above = λ j p less. adds.others j p (inr (omega arith)) ∙ stays.above j p (omega arith);
      }

  marked : Fresh old i → Marked new q i e
  marked fresh =
      record {
        some = l;
        last = adds.here;
        before = λ j low high. adds.others j q (inl (omega arith)) ∙ stays.above j q (omega arith) ∙ fresh.none j q low;
      }

-- The nodes behind the place q, of n
abbrev Behind : ℕ → ℕ → ℕ → Type 0
Behind n q p = (q < p) × (p < n)

each_behind : {p q : ℕ} (n : ℕ) (words : List ℕ) (made : Node) → q ≤ p → EachPart (Under n words p) made → EachPart (Behind n q) made
each_behind n words None l u = tt
each_behind n words Empty l u = tt
each_behind n words (One a b) l u = tt
each_behind n words (Seq x y) l u = ((omega (arith, u.0.behind), u.0.below), (omega (arith, u.1.behind), u.1.below))
each_behind n words (Or x y) l u = ((omega (arith, u.0.behind), u.0.below), (omega (arith, u.1.behind), u.1.below))
each_behind n words (Many x) l u = (omega (arith, u.behind), u.below)
each_behind n words (Same x) l u = (omega (arith, u.behind), u.below)
each_behind n words (Byte b x) l u = (omega (arith, u.behind), u.below)

module _ (scanned : Scanned) where
  abbrev tree : Tree
  tree = scanned.tree

  abbrev words : List ℕ
  words = tree.words.now

  abbrev S : ℕ → ℕ → Bool
  S = begun scanned

  abbrev C : Cuttable → ℕ → List ℕ → List ℕ → ℕ → ℕ → Type 0
  C = Cuts scanned

  pub fresh_behind : {k : Cuttable} {low i e : ℕ} {old new : List ℕ} → C k low old new i e → Fresh (cell tree new) e
  fresh_behind cuts = record { none = cuts.stays.fresh }

  -- Parts

  pub passes_none : {q i : ℕ} {marks : List ℕ} → S i q ≡ false → Fresh (cell tree marks) i → C (whole q) q marks marks i i
  passes_none s fresh = record { cut = cut_none s; stays = stays_none (omega arith) fresh }

  -- The mark of a part is none of those of its parts.
  pub passes_some : {q i e : ℕ} {old mid new : List ℕ} → Linked tree.size words → q < tree.size → S i q ≡ true → Fresh (cell tree old) i → i < e →
      C (inner (node_at words q)) (q + 1) old mid i e → Adds (cell tree mid) (cell tree new) (e - 1) q → C (whole q) q old new i e
  passes_some {q} {i} {e} {old} {mid} {new} linked inside s fresh l cuts adds =
      record {
        cut = cut_some s again (marked (cell tree old) (cell tree mid) (cell tree new) l cuts.stays adds fresh);
        stays = stays_marked (cell tree old) (cell tree mid) (cell tree new) l cuts.stays adds;
      }
    where
      closed : (p : ℕ) → Behind tree.size q p → EachPart (Behind tree.size q) (node_at words p)
      closed p b = each_behind tree.size words (node_at words p) (omega (arith, b.0)) (linked.parts p b.1)

      again : Cut words S (cell tree new) (inner (node_at words q)) i e
      again =
          cut_kept_on (Behind tree.size q) closed cuts.cut (each_behind tree.size words (node_at words q) (omega arith) (linked.parts q inside))
          (λ j p b before. adds.others j p (inr (omega (arith, b.0))))

  -- What a part is made of, by its node

  pub passes_node : {made : Node} {low i e : ℕ} {old new : List ℕ} (q : ℕ) → made ≡ node_at words q → C (inner made) low old new i e → C (inner (node_at words q)) low old new i e
  passes_node {low = low} {i} {e} {old} {new} q is cuts = subst (λ made. C (inner made) low old new i e) is cuts

  pub passes_one : {a b low i : ℕ} {marks : List ℕ} → Fresh (cell tree marks) i → C (inner (One a b)) low marks marks i (i + 1)
  passes_one fresh = record { cut = cut_one; stays = stays_none (omega arith) fresh }

  pub passes_byte : {b x low i e : ℕ} {old new : List ℕ} → low ≤ x → C (whole x) x old new (i + 1) e → C (inner (Byte b x)) low old new i e
  passes_byte l cuts = record { cut = cut_byte cuts.cut; stays = stays_less _ _ l (omega arith) cuts.stays }

  pub passes_seq : {x y low i m e : ℕ} {old mid new : List ℕ} → low ≤ x → low ≤ y → C (whole x) x old mid i m → C (whole y) y mid new m e →
      C (inner (Seq x y)) low old new i e
  passes_seq {m = m} {old = old} {mid} {new} l l' a b =
      record {
        cut = cut_seq m (cut_kept a.cut b.stays.kept) b.cut;
        stays = stays_then (cell tree old) (cell tree mid) (cell tree new) (cut_ordered a.cut) (stays_less _ _ l (omega arith) a.stays) (stays_less _ _ l' (omega arith) b.stays);
      }

  pub passes_left : {x y low i e : ℕ} {old new : List ℕ} → low ≤ x → S i x ≡ true → C (whole x) x old new i e → C (inner (Or x y)) low old new i e
  passes_left l s cuts = record { cut = cut_left s cuts.cut; stays = stays_less _ _ l (omega arith) cuts.stays }

  pub passes_right : {x y low i e : ℕ} {old new : List ℕ} → low ≤ y → S i x ≡ false → C (whole y) y old new i e → C (inner (Or x y)) low old new i e
  passes_right l s cuts = record { cut = cut_right s cuts.cut; stays = stays_less _ _ l (omega arith) cuts.stays }

  pub passes_many : {x low i e : ℕ} {old new : List ℕ} → low ≤ x → C (series x) x old new i e → C (inner (Many x)) low old new i e
  passes_many l cuts = record { cut = cut_many cuts.cut; stays = stays_less _ _ l (omega arith) cuts.stays }

  pub passes_same : {x low i e : ℕ} {old new : List ℕ} → low ≤ x → C (whole x) x old new i e → C (inner (Same x)) low old new i e
  passes_same l cuts = record { cut = cut_same cuts.cut; stays = stays_less _ _ l (omega arith) cuts.stays }

  -- Any number of parts: those up to m are cut, whatever follows.
  pub record Run (x : ℕ) (old new : List ℕ) (i m : ℕ) : Type 0 where
    pub ordered : i ≤ m
    pub stays : Stays x (cell tree old) (cell tree new) i m
    pub goes_on : (M : ℕ → ℕ → Bool) (e : ℕ) → ((j p : ℕ) → j < m → M j p ≡ cell tree new j p) → Cut words S M (series x) m e → Cut words S M (series x) i e

  pub run_more : {x i m e : ℕ} {old mid new : List ℕ} → S m x ≡ true → Run x old mid i m → C (whole x) x mid new m e → Run x old new i e
  run_more {m = m} {e} {old = old} {mid} {new} s run cuts =
      let l = cut_ordered cuts.cut in
      record {
        ordered = omega (arith, run.ordered);
        stays = stays_then (cell tree old) (cell tree mid) (cell tree new) run.ordered run.stays cuts.stays;
        goes_on = λ M end same cut.
            run.goes_on M end (λ j p before. same j p (omega arith) ∙ cuts.stays.kept j p before) (cut_more e s (cut_kept cuts.cut same) cut);
      }

  pub run_fresh : {x i m : ℕ} {old new : List ℕ} → Run x old new i m → Fresh (cell tree new) m
  run_fresh run = record { none = run.stays.fresh }

  pub run_all : {x i m : ℕ} {old new : List ℕ} → S m x ≡ false → Run x old new i m → C (series x) x old new i m
  run_all {m = m} {new = new} s run = record { cut = run.goes_on (cell tree new) m (λ j p before. refl) (cut_stop s); stays = run.stays }
