-- Sets of states behind a text: the first one, the next one behind a byte, and what they tell of the form.
use Rattle.std.proofs.Common.{◌≡◌, ℕ, ◌<◌, Bool, true, List, [], ◌∷◌, ◌++◌, Decides, refl, subst, inl, inr, append-nil, arith}
use Rattle.std.proofs.lemmas.Bool.{ne_eqb}
use Rattle.std.proofs.lemmas.Bool.Decides.{Decides-like}
use Rattle.lens.specs.Forms.{Text, Form, Matches}
use Rattle.bits.specs.Bits.{bit}
use Rattle.reach.specs.Reach.{Reach}
use Rattle.reach.specs.Closed.{Closed}
use Rattle.automata.specs.Automaton.{Runs}
use Rattle.automata.proofs.Closed.{Next, next_is}
use Rattle.automata.proofs.Runs.{Reads, runs_none, runs_reads, run_fold, runs_join}
use Rattle.pairs.specs.Marks.{Only}
use Rattle.pairs.specs.Pairs.{Stays}
use Rattle.pairs.specs.Table.{shape_at}
use Rattle.pairs.proofs.Edges.{stays_inner}
use Rattle.viable.specs.Moves.{Quiet}
use Rattle.viable.specs.Viable.{Viable}
use Rattle.viable.specs.States.{Reader, After, GoesOn, Advanced}
use Rattle.viable.proofs.Splitting.{quiet_runs, runs_quiet, runs_split, runs_single}
use Rattle.viable.proofs.Completing.{viable_reached, reached_viable, matches_reached, reached_matches}

module _ (t : List ℕ) (n : ℕ) (stays : Stays n t) where
  -- Within the first n states

  next_below : (p q : ℕ) → p < n → Next (shape_at t p) q → q < n
  next_below p q l next = next_is (λ r. r < n) (shape_at t p) q (rw (ne_eqb p n (λ e. omega arith)) at (stays_inner n t n stays p l)) next

  pub reads_below : (p q x : ℕ) → p < n → Reads (shape_at t p) x q → q < n
  reads_below p q x l r = next_below p q l (inr (x, r))

  runs_below : (p q : ℕ) (u : Text) → p < n → Runs (shape_at t) p u q → q < n
  runs_below p q u l r =
      run_fold (shape_at t) q (λ p _. p < n → q < n)
      (λ l. l)
      (λ p p' _ m _ ih l. ih (next_below p p' l (inl m)))
      (λ p p' x _ m _ ih l. ih (reads_below p p' x l m))
      r.0 p u r.1 l

  -- The first set

  pub after_none : {set set' : List ℕ} {v : ℕ} → 0 < n → Only set 0 → Closed (Quiet t) n set set' v → After t n [] set'
  after_none {set} {set'} some only closed = record { sound = sound; complete = complete; some = (0, runs_none (shape_at t) 0) }
    where
      sound : (q : ℕ) → q < n → bit set' q ≡ true → Runs (shape_at t) 0 [] q
      sound q l b =
          let r = closed.sound q l b in
          quiet_runs (shape_at t) (subst (λ p. Reach (Quiet t) p q) (only.others r.start r.marked) r.path)

      complete : (q : ℕ) → q < n → Runs (shape_at t) 0 [] q → bit set' q ≡ true
      complete q l r = closed.complete q l (record { start = 0; less = some; marked = only.here; path = runs_quiet (shape_at t) 0 q r })

  -- Behind a byte

  module _ {u : Text} {set : List ℕ} (some : 0 < n) (after : After t n u set) (x : ℕ) where
    goes_runs : (q : ℕ) → GoesOn t n set x q → Runs (shape_at t) 0 (u ++ x ∷ []) q
    goes_runs q g =
        runs_join (shape_at t) 0 g.from q u (x ∷ [])
        (after.sound g.from g.below g.marked)
        (runs_reads (shape_at t) g.from q x [] q g.reads (runs_none (shape_at t) q))

    -- A state of the set reads the byte, and goes on at q without one more.
    record Entry (q : ℕ) : Type 0 where
      pub state : ℕ
      pub below : state < n
      pub goes : GoesOn t n set x state
      pub path : Reach (Quiet t) state q

    runs_goes : (q : ℕ) → Runs (shape_at t) 0 (u ++ x ∷ []) q → Entry q
    runs_goes q r =
        let (p, front, back) = runs_split (shape_at t) 0 q u (x ∷ []) r in
        let s = runs_single (shape_at t) p q x back in
        let come : Runs (shape_at t) 0 (u ++ []) s.state = runs_join (shape_at t) 0 p s.state u [] front (quiet_runs (shape_at t) s.before) in
        let here : Runs (shape_at t) 0 u s.state = rw (append-nil u) at come in
        let less = runs_below 0 s.state u some here in
        record {
          state = s.after;
          below = reads_below s.state s.after x less s.reads;
          goes = record { from = s.state; below = less; marked = after.complete s.state less here; reads = s.reads };
          path = s.behind;
        }

    pub after_more : {mid set' : List ℕ} {v : ℕ} → Advanced t n set x mid true → Closed (Quiet t) n mid set' v → After t n (u ++ x ∷ []) set'
    after_more {mid} {set'} a closed = record { sound = sound; complete = complete; some = let (q, g) = a.any.0 refl in (q, goes_runs q g) }
      where
        sound : (q : ℕ) → q < n → bit set' q ≡ true → Runs (shape_at t) 0 (u ++ x ∷ []) q
        sound q l b =
            let r = closed.sound q l b in
            let g = a.sound r.start r.marked in
            runs_join (shape_at t) 0 g.from q u (x ∷ [])
            (after.sound g.from g.below g.marked)
            (runs_reads (shape_at t) g.from r.start x [] q g.reads (quiet_runs (shape_at t) r.path))

        complete : (q : ℕ) → q < n → Runs (shape_at t) 0 (u ++ x ∷ []) q → bit set' q ≡ true
        complete q l r =
            let i = runs_goes q r in
            closed.complete q l (record { start = i.state; less = i.below; marked = a.complete i.state i.goes; path = i.path })

    -- Whether one byte more is viable is whether the set goes on with it.
    pub next_decides : {e : ℕ} {f : Form} (b : Bool) → Reader t e f → Decides b ((q : ℕ) × GoesOn t n set x q) → Decides b (Viable f (u ++ x ∷ []))
    next_decides {f = f} b r d = Decides-like b viable goes d
      where
        viable : (q : ℕ) × GoesOn t n set x q → Viable f (u ++ x ∷ [])
        viable (q, g) = reached_viable (shape_at t) r.acts r.stops r.ranged (u ++ x ∷ []) q (goes_runs q g)

        goes : Viable f (u ++ x ∷ []) → (q : ℕ) × GoesOn t n set x q
        goes v = let (q, run) = viable_reached (shape_at t) r.acts (u ++ x ∷ []) v in let i = runs_goes q run in (i.state, i.goes)

  -- The end

  pub ends_decides : {u : Text} {set : List ℕ} {e : ℕ} {f : Form} → After t n u set → e < n → Reader t e f → Decides (bit set e) (Matches f u)
  ends_decides {u} {e = e} after l r = (
    λ b. reached_matches (shape_at t) r.acts r.stops (λ less. omega arith) u (after.sound e l b),
    λ m. after.complete e l (matches_reached (shape_at t) r.acts u m),
  )

  pub after_viable : {u : Text} {set : List ℕ} {e : ℕ} {f : Form} → After t n u set → Reader t e f → Viable f u
  after_viable {u} after r = let (q, run) = after.some in reached_viable (shape_at t) r.acts r.stops r.ranged u q run
