-- The loops over the nodes: with no bit made yet (`-none`), with one more (`-more`), and with all of them (`-all`).
-- Not here: why a bit that is made means what it should (Right), and the loop over the text (Tables).
use Rattle.std.proofs.Common.{◌≡◌, ℕ, ◌+◌, ◌<◌, ◌≤◌, Bool, not, ◌&&◌, ◌≢◌, List, [], ◌∷◌, Decides, sym, refl, ap, ◌∙◌, subst, inl, inr, arith}
use Rattle.std.proofs.lemmas.Bool.Decides.{Decides-at}
use Rattle.std.proofs.lemmas.Bool.{cases_eq}
use Rattle.lens.specs.Forms.{Text, Form, Matches}
use Rattle.bits.specs.Bits.{bit, Puts}
use Rattle.trees.specs.declared.step.Spot.{Spot}
use Rattle.trees.specs.Nodes.{node_at, Linked}
use Rattle.trees.specs.Tree.{Stack, Grows, Fits, Begins}
use Rattle.trees.specs.Ready.{Nulls}
use Rattle.trees.specs.Rows.{Stands, Behind, Rested, Steps, row_at}
use Rattle.trees.specs.Rules.{null_rule, rest, start}
use Rattle.trees.proofs.Kept.{stands_within}
use Rattle.trees.proofs.Right.{null_right, rest_right, start_right}

-- What the bits say of each place, after the bit of the place q was put: `at k` is where the bit of the place k stands.
puts_tell : {old new : List ℕ} {v : Bool} {q : ℕ} (at : ℕ → ℕ) (Q : ℕ → Bool → Type 0) → ((k : ℕ) → k ≢ q → at k ≢ at q) →
    Puts old (at q) v new → Q q v → (k : ℕ) → (k ≢ q → Q k (bit old (at k))) → Q k (bit new (at k))
puts_tell {old} {new} {v} {q} at Q apart puts here k there =
    elim (cases_eq k q) [
      | inl same ↦ subst (λ k. Q k (bit new (at k))) (sym same) (subst (Q q) (sym puts.here) here)
      | inr other ↦ subst (Q k) (sym (puts.others (at k) (apart k other))) (there other)
    ]

-- The empty text

pub nulls_none : (n : ℕ) (words : List ℕ) (null : ℕ → Bool) → Nulls n words null n
nulls_none n words null = record { tells = λ q f low l a. absurd (omega arith) }

pub nulls_more : {n p q : ℕ} {words old new : List ℕ} {v : Bool} → Linked n words → p ≤ q + 1 → Nulls n words (bit old) p →
    v ≡ null_rule (bit old) (node_at words q) → Puts old q v new → Nulls n words (bit new) q
nulls_more {n} {p} {q} {words} linked next nulls made puts = record {
  tells = λ k f low.
      puts_tell (λ k. k) (λ k b. (f : Form) → k < n → Grows words k f → Decides b (Matches f [])) (λ k other. other) puts
      (λ f l a. Decides-at _ _ made (null_right linked next nulls l a)) k
      (λ other f l a. nulls.tells k f (omega arith) l a) f;
}

pub nulls_all : {n p : ℕ} {words : List ℕ} {null : ℕ → Bool} → p ≤ 0 → Nulls n words null p → Nulls n words null 0
nulls_all none nulls = record { tells = λ q f low l a. nulls.tells q f (omega arith) l a }

-- What must stand behind each node

pub rested_none : (bits : List ℕ) (spot : Spot) (rests : List ℕ) → Rested bits spot rests 0
rested_none bits spot rests = record { tells = λ t behind. record { tells = λ q f σ l at. absurd (omega arith) } }

pub rested_more : {q : ℕ} {bits : List ℕ} {spot : Spot} {old new : List ℕ} {v : Bool} → Rested bits spot old q →
    v ≡ rest old bits spot q → Puts old q v new → Rested bits spot new (q + 1)
rested_more {q} {bits} {spot} {old} {new} {v} rested made puts = record { tells = λ t behind. record { tells = tells t behind } }
  where
    tells : (t : Text) → Behind bits spot t → (k : ℕ) (f : Form) (σ : Stack) → k < q + 1 → Stands spot.tree k f σ →
        Decides (bit new k) (Fits σ t)
    tells t behind k f σ l =
        puts_tell (λ k. k) (λ k b. (f : Form) (σ : Stack) → Stands spot.tree k f σ → Decides b (Fits σ t)) (λ k other. other) puts
        (λ f σ at. Decides-at _ _ made (rest_right old bits spot t behind (rested.tells t behind) at)) k
        (λ other f σ at. (rested.tells t behind).tells k f σ (omega arith) at) f σ

pub rested_all : {high : ℕ} {bits : List ℕ} {spot : Spot} {rests : List ℕ} → spot.tree.size ≤ high →
    Rested bits spot rests high → Rested bits spot rests spot.tree.size
rested_all all rested = record {
  tells = λ t behind. record { tells = λ q f σ l at. (rested.tells t behind).tells q f σ (omega arith) at };
}

-- What begins at a spot

behind_kept : {old new : List ℕ} {spot : Spot} {t : Text} → ((k : ℕ) → spot.row + spot.tree.size ≤ k → bit new k ≡ bit old k) →
    Behind old spot t → Behind new spot t
behind_kept {spot = spot} kept behind = record {
  starts = record {
    tells = λ q f σ low at.
        Decides-at _ _ (ap (λ b. not spot.last && b) (kept _ (omega arith))) (behind.starts.tells q f σ low at);
  };
  ends = behind.ends;
}

pub steps_none : (spot : Spot) (bits : List ℕ) → Steps spot bits bits spot.tree.size
steps_none spot bits = record {
  tells = λ t behind. record { tells = λ q f σ low at. absurd (omega (arith, (stands_within spot.tree at).1)) };
  kept = λ k past. refl;
}

pub steps_more : {p q : ℕ} {spot : Spot} {first old new rests : List ℕ} {v : Bool} → p ≤ q + 1 → q < spot.tree.size →
    Rested first spot rests spot.tree.size → Steps spot first old p →
    v ≡ start rests old spot q → Puts old (spot.row + q) v new → Steps spot first new q
steps_more {p} {q} {spot} {first} {old} {new} {rests} {v} next inside rested steps made puts = record {
  tells = λ t behind. record { tells = tells t behind };
  kept = λ k past. puts.others k (λ same. absurd (omega arith)) ∙ steps.kept k past;
}
  where
    right : {f : Form} {σ : Stack} (t : Text) → Behind first spot t → Stands spot.tree q f σ → Decides v (Begins f σ (spot.byte ∷ t))
    right t behind at =
        Decides-at _ _ made
        (start_right rests old spot t (behind_kept steps.kept behind) next (rested.tells t behind) (steps.tells t behind) at)

    tells : (t : Text) → Behind first spot t → (k : ℕ) (f : Form) (σ : Stack) → q ≤ k → Stands spot.tree k f σ →
        Decides (row_at new spot.row k) (Begins f σ (spot.byte ∷ t))
    tells t behind k f σ low =
        puts_tell (λ k. spot.row + k) (λ k b. (f : Form) (σ : Stack) → Stands spot.tree k f σ → Decides b (Begins f σ (spot.byte ∷ t)))
        (λ k other same. other (omega arith)) puts (λ f σ at. right t behind at) k
        (λ other f σ at. (steps.tells t behind).tells k f σ (omega arith) at) f σ

pub steps_all : {p : ℕ} {spot : Spot} {old new : List ℕ} → p ≤ 0 → Steps spot old new p → Steps spot old new 0
steps_all none steps = record {
  tells = λ t behind. record { tells = λ q f σ low at. (steps.tells t behind).tells q f σ (omega arith) at };
  kept = steps.kept;
}
