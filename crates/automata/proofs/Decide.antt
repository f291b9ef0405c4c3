-- What can be told of pairs of states that are finitely many: whether one pair is reached from another, whether
-- two runs meet, and whether they cross. States are of any type in which equality can be told.
use mathlib.Core.Path.{◌≡◌, refl, sym, ◌∙◌}
use mathlib.Core.Bool.{Bool}
use mathlib.Core.List.{List, ◌∷◌, Memᴰ}
use mathlib.Core.Logic.{inl, inr}
use Rattle.lens.specs.Forms.{Text, Form}
use Rattle.reach.specs.Reach.{here, step}
use Rattle.reach.proofs.Decide.{Decided, reach_decided}
use Rattle.automata.specs.Automaton.{Shape, stop, to, fork, leaf, Leaf, Runs, moves, Move, Reached, ended, Bounds, Acts, Meets, Crosses}
use Rattle.automata.proofs.Lists.{pairs, pairs_in, in_pairs, any_decided, same_pair, among_decided}
use Rattle.automata.proofs.Paths.{path_eats}
use Rattle.automata.proofs.Closed.{Closed, closed, closed_alike, stays}
use Rattle.automata.proofs.Ended.{ended_stops, ended_alike}

leaf_decided : {A : Type 0} (s : Shape A) → Decided (Leaf s)
leaf_decided stop = inr (λ h. h)
leaf_decided (to q) = inr (λ h. h)
leaf_decided (fork q r) = inr (λ h. h)
leaf_decided (leaf a b q) = inl tt

module _ {A : Type 0} (same : (x y : A) → Decided (x ≡ y)) where
  -- From among finitely many states, in an automaton that stops at n.
  module _ {shape : A → Shape A} {ok : A → Type 0} (n : A) (halt : shape n ≡ stop) {l m : List A}
      (c : Closed shape ok l (λ r. Memᴰ r (n ∷ l))) (d : Closed shape ok m (λ r. Memᴰ r (n ∷ m))) where
    pub reached_stays : (s t : A × A) → Memᴰ s.0 (n ∷ l) → Memᴰ s.1 (n ∷ m) → Reached shape s t →
        Memᴰ t.0 (n ∷ l) × Memᴰ t.1 (n ∷ m)
    reached_stays s t i j h = let (u, r, k) = path_eats shape h in ((stays {shape' = shape} n halt c (λ p o. refl) s.0 t.0 u i r).1, (stays {shape' = shape} n halt d (λ p o. refl) s.1 t.1 u j k).1)

    move_kept : (s t : A × A) → Memᴰ s (pairs (n ∷ l) (n ∷ m)) → Move shape s t → Memᴰ t (pairs (n ∷ l) (n ∷ m))
    move_kept s t h e = let (i, j) = pairs_in (n ∷ l) (n ∷ m) s h in let (i', j') = reached_stays s t i j (step e here) in in_pairs (n ∷ l) (n ∷ m) t.0 t.1 i' j'

    pub reached_decided : (p q : A) (t : A × A) → Memᴰ p (n ∷ l) → Memᴰ q (n ∷ m) → Decided (Reached shape (p, q) t)
    reached_decided p q t i j = reach_decided (Move shape) (same_pair same) (λ s r. among_decided same r (moves s.0 s.1 (shape s.0) (shape s.1))) (pairs (n ∷ l) (n ∷ m)) move_kept (p, q) t (in_pairs (n ∷ l) (n ∷ m) p q i j)

  pub meets_decided : {shape : A → Shape A} {at_n : A → Bool} {ok : A → Type 0} {f g : Form} {p q n : A} → Bounds at_n ok n →
      Acts shape ok f p n → Acts shape ok g q n → Decided (Meets at_n shape p q n)
  meets_decided {shape} {at_n} {ok} {f} {g} {p} {q} {n} b a a' =
      let c = closed a in
      let d = closed a' in
      let alike = ended_alike b shape in
      reached_decided n (ended_stops b shape) (closed_alike alike c.closing) (closed_alike alike d.closing) p q (n, n) c.start d.start

  -- `ok` is for the states before m, and `ok'` for all those before n.
  module _ {shape : A → Shape A} {at_m at_n : A → Bool} {ok ok' : A → Type 0} {f g : Form} {i m n : A} (bm : Bounds at_m ok m)
      (bn : Bounds at_n ok n) (bn' : Bounds at_n ok' n) (a : Acts shape ok f i m) (b : Acts shape ok' g i n) where
    abbrev to_m : A → Shape A
    to_m = ended at_m shape

    abbrev to_n : A → Shape A
    to_n = ended at_n shape

    first_part : Closed to_m ok (closed a).states (λ r. Memᴰ r (m ∷ (closed a).states))
    first_part = closed_alike (ended_alike bm shape) (closed a).closing

    all_parts : Closed to_n ok' (closed b).states (λ r. Memᴰ r (n ∷ (closed b).states))
    all_parts = closed_alike (ended_alike bn' shape) (closed b).closing

    -- what is run through before m is among the states before n
    carried : (u : Text) (e : A) → Runs to_m i u e → Memᴰ e (n ∷ (closed b).states)
    carried u e r =
        let (r', _) = stays m (ended_stops bm shape) first_part (λ p o. ended_alike bn shape p o ∙ sym (ended_alike bm shape p o)) i e u (closed a).start r in
        (stays {shape' = to_n} n (ended_stops bn' shape) all_parts (λ p o. refl) i e u (closed b).start r').1

    abbrev CrossesAt : A → Type 0
    CrossesAt q = Leaf (to_m q) × Reached to_m (i, i) (m, q) × Reached to_n (m, q) (n, n)

    crosses_at : (q : A) → Decided (CrossesAt q)
    crosses_at q = go (leaf_decided (to_m q)) (reached_decided m (ended_stops bm shape) first_part first_part i i (m, q) (closed a).start (closed a).start)
      where
        last : Leaf (to_m q) → Reached to_m (i, i) (m, q) → Decided (Reached to_n (m, q) (n, n)) → Decided (CrossesAt q)
        last l h (inl k) = inl (l, h, k)
        last l h (inr k) = inr (λ z. k z.2)

        go : Decided (Leaf (to_m q)) → Decided (Reached to_m (i, i) (m, q)) → Decided (CrossesAt q)
        go (inr l) h = inr (λ z. l z.0)
        go (inl l) (inr h) = inr (λ z. h z.1)
        go (inl l) (inl h) = let (u, r, s) = path_eats to_m h in last l h (reached_decided n (ended_stops bn' shape) all_parts all_parts m q (n, n) (carried u m r) (carried u q s))

    pub crosses_decided : Decided (Crosses at_m at_n shape i m n)
    crosses_decided = elim (any_decided CrossesAt crosses_at (m ∷ (closed a).states)) [
      | inl z ↦ inl (z.0, z.2.0, z.2.1, z.2.2)
      | inr z ↦ inr (λ (q, l, h, k). z (q, (reached_stays m (ended_stops bm shape) first_part first_part (i, i) (m, q) (closed a).start (closed a).start h).1, (l, h, k)))
    ]
