-- Things that stand one after the other, and things behind a tag: from where the parts end to where the whole ends.
-- For anything that has a row; the forms and views themselves are in Tags.
use Rattle.std.proofs.Common.{◌≡◌, ℕ, ◌+◌, ◌<◌, List, ◌∷◌, ◌++◌, length, drop, Some, None, Option, sym, ap, ◌∙◌, subst, append_assoc, arith}
use Rattle.rows.specs.Stands.{Stands, Nowhere, Ends, both_row, BothFine, Heads}
use Rattle.rows.specs.Nodes.{Tagged}

-- No other thing begins as x does.
pub record Splits {A : Type 0} (row : A → List ℕ) (x : A) : Type 0 where
  pub only : (y : A) (r t : List ℕ) → row x ++ r ≡ row y ++ t → (x ≡ y) × (r ≡ t)

-- One after the other
module _ {A B : Type 0} (row : A → List ℕ) (fine : A → Type 0) (row' : B → List ℕ) (fine' : B → Type 0) where
  pub stands_both : {s : List ℕ} {at m e : ℕ} → Stands row fine s at m → Stands row' fine' s m e → Stands (both_row row row') (BothFine fine fine') s at e
  stands_both a b = record {
    thing = (a.thing, b.thing);
    sound = (a.sound, b.sound);
    less = omega arith;
    within = b.within;
    laid = a.laid ∙ ap (λ r. row a.thing ++ r) b.laid ∙ sym (append_assoc (row a.thing) (row' b.thing) _);
  }

  pub nowhere_first : {s : List ℕ} {at : ℕ} → Nowhere row fine s at → Nowhere (both_row row row') (BothFine fine fine') s at
  nowhere_first n = record { never = λ p r f e. n.never p.0 (row' p.1 ++ r) f.0 (e ∙ append_assoc (row p.0) (row' p.1) r) }

  pub nowhere_second : {s : List ℕ} {at m : ℕ} → ((x : A) → Splits row x) → Stands row fine s at m → Nowhere row' fine' s m → Nowhere (both_row row row') (BothFine fine fine') s at
  nowhere_second one a n = record {
    never = λ p r f e.
        let same = (one a.thing).only p.0 _ (row' p.1 ++ r) (sym a.laid ∙ e ∙ append_assoc (row p.0) (row' p.1) r) in
        n.never p.1 r f.1 same.1;
  }

  pub ends_both : {s : List ℕ} {at m : ℕ} → ((x : A) → Splits row x) → Stands row fine s at m → (r : Option ℕ) → Ends row' fine' s m r → Ends (both_row row row') (BothFine fine fine') s at r
  ends_both one a (Some e) b = stands_both a b
  ends_both one a None n = nowhere_second one a n

pub splits_both : {A B : Type 0} (row : A → List ℕ) (row' : B → List ℕ) (x : A) (z : B) → Splits row x → Splits row' z → Splits (both_row row row') (x, z)
splits_both row row' x z one two = record {
  only = λ y r t e.
      let first = one.only y.0 (row' z ++ r) (row' y.1 ++ t) (sym (append_assoc (row x) (row' z) r) ∙ e ∙ append_assoc (row y.0) (row' y.1) t) in
      let second = two.only y.1 r t first.1 in
      ((λ i. (first.0 i, second.0 i)), second.1);
}

-- Behind a tag: a thing of C is made from a thing of A by the tag t in front of its row.
pub record Builds {A C : Type 0} (t : ℕ) (row : A → List ℕ) (fine : A → Type 0) (row' : C → List ℕ) (fine' : C → Type 0) : Type 0 where
  pub make : A → C
  pub lays : (a : A) → row' (make a) ≡ t ∷ row a
  pub keeps : (a : A) → fine a → fine' (make a)
  pub gives : (a : A) → fine' (make a) → fine a
  pub undo : (x : C) (w r : List ℕ) → t ∷ w ≡ row' x ++ r → (a : A) × (x ≡ make a) × (w ≡ row a ++ r)

module _ {A C : Type 0} {t : ℕ} {row : A → List ℕ} {fine : A → Type 0} {row' : C → List ℕ} {fine' : C → Type 0} (b : Builds t row fine row' fine') where
  pub stands_tagged : {s : List ℕ} {at i e : ℕ} → Tagged s at t i → Stands row fine s i e → Stands row' fine' s at e
  stands_tagged {s} {at} {i} {e} g a = record {
    thing = b.make a.thing;
    sound = b.keeps a.thing a.sound;
    less = omega (arith, a.less, g.behind);
    within = a.within;
    laid = g.heads.laid ∙ ap (λ k. t ∷ drop k s) (sym g.behind) ∙ ap (λ r. t ∷ r) a.laid ∙ ap (λ r. r ++ drop e s) (sym (b.lays a.thing));
  }

  pub nowhere_tagged : {s : List ℕ} {at i : ℕ} → Tagged s at t i → Nowhere row fine s i → Nowhere row' fine' s at
  nowhere_tagged {s} {at} {i} g n = record {
    never = λ x r f e.
        let u = b.undo x _ r (sym g.heads.laid ∙ e) in
        n.never u.0 r (b.gives u.0 (subst fine' u.1 f)) (ap (λ k. drop k s) g.behind ∙ u.2);
  }

  pub ends_tagged : {s : List ℕ} {at i : ℕ} → Tagged s at t i → (r : Option ℕ) → Ends row fine s i r → Ends row' fine' s at r
  ends_tagged g (Some e) a = stands_tagged g a
  ends_tagged g None n = nowhere_tagged g n

  pub splits_tagged : (a : A) → Splits row a → Splits row' (b.make a)
  splits_tagged a one = record {
    only = λ y r q e.
        let u = b.undo y (row a ++ r) q (ap (λ w. w ++ r) (sym (b.lays a)) ∙ e) in
        let same = one.only u.0 r q u.2 in
        (ap b.make same.0 ∙ sym u.1, same.1);
  }

-- A thing that is all there is behind its place
pub stands_heads : {C : Type 0} {row : C → List ℕ} {fine : C → Type 0} {s : List ℕ} {at : ℕ} (x : C) → fine x → 0 < length (row x) → Heads s at (row x) → Stands row fine s at (at + length (row x))
stands_heads x f some h = record { thing = x; sound = f; less = omega arith; within = h.within; laid = h.laid }
