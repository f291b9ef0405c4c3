-- The rules of the passes are right: a bit that a rule makes means what it should, if the bits that it is made of do.
use Rattle.std.proofs.Common.{◌≡◌, ℕ, ◌+◌, ◌<◌, ◌≤◌, Bool, List, [], ◌∷◌, Decides, sym, refl, ap, ◌∙◌, zero-le, arith}
use Rattle.std.proofs.lemmas.Bool.Decides.{Decides-eqb, Decides-at, Decides-like, Decides-and, Decides-or}
use Rattle.std.proofs.lemmas.Bool.{eq-eqb, ne_eqb, cond-true, cond-false}
use Rattle.lens.specs.Forms.{Text, Form, Matches, is_empty, is_seq, is_none}
use Rattle.bits.specs.Bits.{bit}
use Rattle.trees.specs.declared.nodes.Node.{Node}
use Rattle.trees.specs.declared.nodes.Node.TheVariants.{Seq, Or, Many, Same, Byte}
use Rattle.trees.specs.declared.step.Spot.{Spot}
use Rattle.trees.specs.Nodes.{node_at, EachPart, Under, Linked}
use Rattle.trees.specs.Tree.{Stack, Grows, grows_empty, grows_one, grows_seq, grows_or, grows_many, grows_same, grows_byte, Fits, Begins, at_root, at_first, at_second, at_left, at_right, at_many, at_same, at_byte}
use Rattle.trees.specs.Ready.{Nulls, Ready}
use Rattle.trees.specs.Rows.{Stands, Rests, Starts, Behind, row_at, row_behind}
use Rattle.trees.specs.Rules.{null_rule, rest_rule, rest, start_rule, start}
use Rattle.trees.proofs.Decisions.{decides_true, decides_false, decides_leb}
use Rattle.trees.proofs.Begins.{one_not_empty, seq_empty_complete, or_empty_complete, fits_nil_sound, fits_nil_complete, fits_cons_sound, fits_cons_complete, fits_many_sound, fits_many_complete, begins_empty_complete, begins_one_sound, begins_one_complete, begins_seq_sound, begins_seq_complete, begins_or_sound, begins_or_complete, begins_many_sound, begins_many_complete, begins_byte_sound, begins_byte_complete}
use Rattle.trees.proofs.Told.{either}
use Rattle.trees.proofs.Kept.{ready_of, stands_within}
use Rattle.trees.proofs.Within.{at_grows, parts_of}

-- The empty text

module _ {n : ℕ} {words : List ℕ} {null : ℕ → Bool} (linked : Linked n words) where
  part : {p q x : ℕ} {f : Form} → p ≤ q + 1 → Nulls n words null p → Under n words q x → Grows words x f →
      Decides (null x) (Matches f [])
  part low nulls u a = nulls.tells _ _ (omega (arith, low, u.behind)) u.below a

  pub null_right : {p q : ℕ} {f : Form} → p ≤ q + 1 → Nulls n words null p → q < n → Grows words q f →
      Decides (null_rule null (node_at words q)) (Matches f [])
  null_right low nulls l (grows_empty e) = Decides-at _ _ (ap (null_rule null) e) (decides_true is_empty)
  null_right low nulls l (grows_one e) = Decides-at _ _ (ap (null_rule null) e) (decides_false one_not_empty)
  null_right low nulls l (grows_seq x y e a b) =
      let us = parts_of linked (Seq x y) l e in
      Decides-at _ _ (ap (null_rule null) e)
      (Decides-like _ (λ h. is_seq [] [] h.0 h.1) seq_empty_complete
      (Decides-and _ _ (part low nulls us.0 a) (part low nulls us.1 b)))
  null_right low nulls l (grows_or x y e a b) =
      let us = parts_of linked (Or x y) l e in
      Decides-at _ _ (ap (null_rule null) e)
      (Decides-like _ either or_empty_complete
      (Decides-or _ _ (part low nulls us.0 a) (part low nulls us.1 b)))
  null_right low nulls l (grows_many x e a) = Decides-at _ _ (ap (null_rule null) e) (decides_true is_none)
  null_right low nulls l (grows_same x e a) = Decides-at _ _ (ap (null_rule null) e) (part low nulls (parts_of linked (Same x) l e) a)
  null_right low nulls l (grows_byte x e a) =
      Decides-at _ _ (ap (null_rule null) e) (decides_false (λ m. one_not_empty (seq_empty_complete m).0))

-- One step back. Behind the spot stands the text t.
module _ (rests bits : List ℕ) (spot : Spot) (t : Text) (behind : Behind bits spot t) where
  ready : Ready spot.tree.words.now spot.tree.null.now spot.tree.size spot.tree.root
  ready = ready_of spot.tree.ready

  abbrev Part : ℕ → ℕ → Type 0
  Part q x = Under spot.tree.size spot.tree.words.now q x

  parts : {q : ℕ} {f : Form} {σ : Stack} (made : Node) → Stands spot.tree q f σ → node_at spot.tree.words.now q ≡ made → EachPart (Part q) made
  parts made at e = parts_of ready.linked made (stands_within spot.tree at).1 e

  null_of : {q : ℕ} {f : Form} {σ : Stack} → Stands spot.tree q f σ → Decides (bit spot.tree.null.now q) (Matches f [])
  null_of at = ready.nulls.tells _ _ zero-le (stands_within spot.tree at).1 (at_grows at)

  starts_behind : {q : ℕ} {f : Form} {σ : Stack} → Stands spot.tree q f σ → Decides (row_behind bits spot q) (Begins f σ t)
  starts_behind at = behind.starts.tells _ _ _ zero-le at

  -- What must stand behind a node

  abbrev rest_by : ℕ → ℕ → Node → Bool
  rest_by = rest_rule (bit spot.tree.null.now) (row_behind bits spot) (bit rests)

  -- A part has its bit by its node.
  rest_is : {x q : ℕ} {f : Form} {σ : Stack} (made : Node) → Stands spot.tree q f σ → Part q x → node_at spot.tree.words.now q ≡ made →
      rest rests bits spot x ≡ rest_by x q made
  rest_is {x} {q} made at u e =
      cond-false _ _ _ (ne_eqb x spot.tree.root (λ same. omega (arith, (stands_within spot.tree at).0, u.behind))) ∙
      ap (λ p. rest_by x p (node_at spot.tree.words.now p)) u.parent ∙ ap (rest_by x q) e

  pub rest_right : {q : ℕ} {f : Form} {σ : Stack} → Rests spot.tree (bit rests) q t → Stands spot.tree q f σ →
      Decides (rest rests bits spot q) (Fits σ t)
  rest_right above (at_root a) =
      Decides-at _ _ (cond-true _ _ _ (eq-eqb spot.tree.root spot.tree.root refl))
      (Decides-like _ fits_nil_sound fits_nil_complete behind.ends)
  rest_right above (at_first q x y e a b at) =
      let us = parts (Seq x y) at e in
      let second = at_second q x y e a b at in
      Decides-at _ _ (rest_is (Seq x y) at us.0 e ∙ cond-true _ _ _ (eq-eqb x x refl))
      (Decides-like _ fits_cons_sound fits_cons_complete
      (Decides-or _ _ (starts_behind second) (Decides-and _ _ (null_of second) (above.tells _ _ _ us.0.behind at))))
  rest_right above (at_second q x y e a b at) =
      let us = parts (Seq x y) at e in
      let differ = ready.linked.two q x y (stands_within spot.tree at).1 e in
      Decides-at _ _ (rest_is (Seq x y) at us.1 e ∙ cond-false _ _ _ (ne_eqb y x (λ same. differ (sym same))))
      (above.tells _ _ _ us.1.behind at)
  rest_right above (at_left q x y e a b at) =
      let us = parts (Or x y) at e in
      Decides-at _ _ (rest_is (Or x y) at us.0 e) (above.tells _ _ _ us.0.behind at)
  rest_right above (at_right q x y e a b at) =
      let us = parts (Or x y) at e in
      Decides-at _ _ (rest_is (Or x y) at us.1 e) (above.tells _ _ _ us.1.behind at)
  rest_right above (at_many q x e a at) =
      let u = parts (Many x) at e in
      Decides-at _ _ (rest_is (Many x) at u e)
      (Decides-like _ fits_many_sound fits_many_complete (Decides-or _ _ (starts_behind at) (above.tells _ _ _ u.behind at)))
  rest_right above (at_same q x e a at) =
      let u = parts (Same x) at e in
      Decides-at _ _ (rest_is (Same x) at u e) (above.tells _ _ _ u.behind at)
  rest_right above (at_byte q b x e a at) =
      let u = parts (Byte b x) at e in
      Decides-at _ _ (rest_is (Byte b x) at u e) (above.tells _ _ _ u.behind at)

  -- What begins at the spot

  abbrev start_by : ℕ → Node → Bool
  start_by = start_rule (bit spot.tree.null.now) (row_behind bits spot) (bit rests) (row_at bits spot.row) spot.byte

  pub start_right : {p q : ℕ} {f : Form} {σ : Stack} → p ≤ q + 1 → Rests spot.tree (bit rests) spot.tree.size t →
      Starts spot.tree (row_at bits spot.row) p (spot.byte ∷ t) → Stands spot.tree q f σ → Decides (start rests bits spot q) (Begins f σ (spot.byte ∷ t))
  start_right {p} {q} low rested starts at = by_node (at_grows at) at
    where
      rest_of : {f : Form} {σ : Stack} → Stands spot.tree q f σ → Decides (bit rests q) (Fits σ t)
      rest_of at = rested.tells _ _ _ (stands_within spot.tree at).1 at

      part : {x : ℕ} {f : Form} {σ : Stack} → Part q x → Stands spot.tree x f σ →
          Decides (row_at bits spot.row x) (Begins f σ (spot.byte ∷ t))
      part u at = starts.tells _ _ _ (omega (arith, low, u.behind)) at

      by_node : {f : Form} {σ : Stack} → Grows spot.tree.words.now q f → Stands spot.tree q f σ →
          Decides (start rests bits spot q) (Begins f σ (spot.byte ∷ t))
      by_node (grows_empty e) at = Decides-at _ _ (ap (start_by q) e) (decides_false begins_empty_complete)
      by_node (grows_one e) at =
          Decides-at _ _ (ap (start_by q) e)
          (Decides-like _ (λ h. begins_one_sound (h.0, h.1.0, h.1.1)) (λ b. let h = begins_one_complete b in (h.0, (h.1, h.2)))
          (Decides-and _ _ (decides_leb _ _) (Decides-and _ _ (decides_leb _ _) (rest_of at))))
      by_node (grows_seq x y e a b) at =
          let us = parts (Seq x y) at e in
          let first = at_first q x y e a b at in
          Decides-at _ _ (ap (start_by q) e)
          (Decides-like _ begins_seq_sound begins_seq_complete
          (Decides-or _ _ (part us.0 first) (Decides-and _ _ (null_of first) (part us.1 (at_second q x y e a b at)))))
      by_node (grows_or x y e a b) at =
          let us = parts (Or x y) at e in
          Decides-at _ _ (ap (start_by q) e)
          (Decides-like _ begins_or_sound begins_or_complete
          (Decides-or _ _ (part us.0 (at_left q x y e a b at)) (part us.1 (at_right q x y e a b at))))
      by_node (grows_many x e a) at =
          Decides-at _ _ (ap (start_by q) e)
          (Decides-like _ begins_many_sound begins_many_complete (part (parts (Many x) at e) (at_many q x e a at)))
      by_node (grows_same x e a) at = Decides-at _ _ (ap (start_by q) e) (part (parts (Same x) at e) (at_same q x e a at))
      by_node (grows_byte x e a) at =
          let rest = at_byte q _ x e a at in
          Decides-at _ _ (ap (start_by q) e)
          (Decides-like _
          (λ h. begins_byte_sound (h.0, fits_cons_sound h.1))
          (λ b. let h = begins_byte_complete b in (h.0, fits_cons_complete h.1))
          (Decides-and _ _ (Decides-eqb _ _) (Decides-or _ _ (starts_behind rest) (Decides-and _ _ (null_of rest) (rest_of at)))))
