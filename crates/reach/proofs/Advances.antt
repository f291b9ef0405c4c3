-- The ways of a search: none, one visit, one way after another; and what a search has marked that finds nothing more.
use Rattle.std.proofs.Common.{◌≡◌, ℕ, ◌+◌, ◌<◌, ◌≤◌, true, ◌⊎◌, List, sym, refl, ◌∙◌, inl, inr, arith}
use Rattle.std.proofs.lemmas.Bool.{cases_eq, cases_Bool, both_ways}
use Rattle.std.proofs.lemmas.Bool.Decides.{same_from_decides}
use Rattle.bits.specs.Bits.{bit, Puts, Clears}
use Rattle.reach.specs.declared.graph.Moves.TheVariants.{Two}
use Rattle.reach.specs.Reach.{here, step}
use Rattle.reach.specs.Graphs.{Leads}
use Rattle.reach.specs.Closed.{Reached, Closed}
use Rattle.reach.specs.Search.{Fresh, Expands, Settled, Advances}
use Rattle.reach.proofs.Paths.{reach_join, reach_keeps}
use Rattle.reach.proofs.Misses.{misses_le, misses_all, misses_same, misses_falls}

-- A bit that is made true
module _ {old new : List ℕ} {k : ℕ} (p : Puts old k true new) where
  pub puts_keeps : (b : ℕ) → bit old b ≡ true → bit new b ≡ true
  puts_keeps b t = elim (cases_eq b k) [ inl at ↦ rw at p.here | inr other ↦ p.others b other ∙ t ]

  pub puts_back : (b : ℕ) → bit new b ≡ true → (bit old b ≡ true) ⊎ (b ≡ k)
  puts_back b t = elim (cases_eq b k) [ inl at ↦ inr at | inr other ↦ inl (sym (p.others b other) ∙ t) ]

pub expands_two : {Out : ℕ → Type 0} {n x y : ℕ} {seen middle seen' : List ℕ}
    → Leads Out n (Two x y) → Puts seen x true middle → Puts middle y true seen' → Expands Out n seen seen'
expands_two leads p q = record {
  keeps = λ b t. puts_keeps q b (puts_keeps p b t);
  sound = λ b t. elim (puts_back q b t) [
    | inl before ↦ elim (puts_back p b before) [ inl old ↦ inl old | inr at ↦ inr (leads.sound b (inl at)) ]
    | inr at ↦ inr (leads.sound b (inr at))
  ];
  complete = λ b out. elim (leads.complete b out) [ inl at ↦ rw at (puts_keeps q _ p.here) | inr at ↦ rw at q.here ];
  within = λ b out. leads.within b (leads.complete b out);
  long = q.long ∙ p.long;
}

module _ {E : ℕ → ℕ → Type 0} {n : ℕ} where
  stays : {seen : List ℕ} (b : ℕ) → b < n → bit seen b ≡ true → Reached E n seen b
  stays b less t = record { start = b; less = less; marked = t; path = here }

  pub advances_none : (seen done : List ℕ) → Advances E n seen done seen done 0
  advances_none seen done = record {
    keeps = λ b t. t;
    sound = stays;
    beyond = λ b l t. t;
    settles = λ a d. inl d;
    counted = omega arith;
    seen_long = refl;
    done_long = refl;
  }

  -- a fresh node is visited: it is done, and its moves are marked
  pub advances_visit : {seen done seen' done' : List ℕ} {a : ℕ} → a < n → Fresh seen done a
      → Puts done a true done' → Expands (E a) n seen seen' → Advances E n seen done seen' done' 1
  advances_visit {seen' = seen'} {a = a} less fresh p x = record {
    keeps = x.keeps;
    sound = λ b l t. elim (x.sound b t) [
      | inl old ↦ stays b l old
      | inr e ↦ record { start = a; less = less; marked = fresh.has; path = step e here }
    ];
    beyond = λ b l t. elim (x.sound b t) [ inl old ↦ old | inr e ↦ absurd (omega (arith, x.within b e)) ];
    settles = λ k d. elim (puts_back p k d) [ inl old ↦ inl old | inr at ↦ inr (rw at settled) ];
    counted = misses_falls _ _ a n less fresh.lacks p.here p.others;
    seen_long = x.long;
    done_long = p.long;
  }
    where
      settled : Settled E n seen' a
      settled = record { marked = x.keeps a fresh.has; followed = x.complete; within = x.within }

  pub advances_then : {seen done seen' done' seen'' done'' : List ℕ} {v w : ℕ}
      → Advances E n seen done seen' done' v → Advances E n seen' done' seen'' done'' w → Advances E n seen done seen'' done'' (v + w)
  advances_then {seen' = seen'} {seen'' = seen''} x y = record {
    keeps = λ b t. y.keeps b (x.keeps b t);
    sound = λ b l t.
        let late = y.sound b l t in
        let early = x.sound late.start late.less late.marked in
        record { start = early.start; less = early.less; marked = early.marked; path = reach_join early.path late.path };
    beyond = λ b l t. x.beyond b l (y.beyond b l t);
    settles = λ a d. elim (y.settles a d) [
      | inl before ↦ elim (x.settles a before) [ inl old ↦ inl old | inr s ↦ inr (later s) ]
      | inr s ↦ inr s
    ];
    counted = omega (arith, x.counted, y.counted);
    seen_long = y.seen_long ∙ x.seen_long;
    done_long = y.done_long ∙ x.done_long;
  }
    where
      later : {a : ℕ} → Settled E n seen' a → Settled E n seen'' a
      later s = record { marked = y.keeps _ s.marked; followed = λ b e. y.keeps b (s.followed b e); within = s.within }

  pub advances_few : {seen done seen' done' : List ℕ} {v : ℕ} → Advances E n seen done seen' done' v → v ≤ n
  advances_few {done = done} x = omega (arith, x.counted, misses_le (bit done) n)

  -- nothing is fresh any more, so the marked nodes are those that are done
  pub closed_end : {old seen done seen' done' : List ℕ} {v : ℕ} → Clears old done → Advances E n seen done seen' done' v
      → ((j : ℕ) → j < n → Fresh seen' done' j → ⊥) → Closed E n seen seen' v
  closed_end {seen = seen} {done = done} {seen' = seen'} {done' = done'} clear x none = record {
    sound = x.sound;
    complete = λ b l r. (reach_keeps Marked follows r.path (r.less, x.keeps _ r.marked)).1;
    beyond = λ b l. same_from_decides {P = bit seen b ≡ true} _ _ (x.beyond b l, x.keeps b) (λ t. t, λ t. t);
    counted = omega (arith, x.counted, misses_all (bit done) n clear.none, misses_same (bit seen') (bit done') n same);
    long = x.seen_long;
  }
    where
      visited : (a : ℕ) → a < n → bit seen' a ≡ true → bit done' a ≡ true
      visited a l t = elim (cases_Bool (bit done' a)) [ inl d ↦ d | inr w ↦ absurd (none a l (record { has = t; lacks = w })) ]

      settled : (a : ℕ) → bit done' a ≡ true → Settled E n seen' a
      settled a d = elim (x.settles a d) [ inl old ↦ absurd (both_ways _ (clear.none a) old) | inr s ↦ s ]

      Marked : ℕ → Type 0
      Marked a = (a < n) × (bit seen' a ≡ true)

      follows : (a b : ℕ) → E a b → Marked a → Marked b
      follows a b e (l, t) = let s = settled a (visited a l t) in (s.within b e, s.followed b e)

      same : (a : ℕ) → a < n → bit seen' a ≡ bit done' a
      same a l = same_from_decides {P = bit done' a ≡ true} _ _ (visited a l, λ d. (settled a d).marked) (λ d. d, λ d. d)
