-- What is read from a state that acts as a form can be completed to a text of the form: a front of a text is viable if and
-- only if some state is come to with it.
use Rattle.std.proofs.Common.{◌≡◌, ℕ, zero, suc, ◌<◌, ◌≤◌, ◌⊎◌, [], ◌∷◌, ◌++◌, sym, refl, ap, ◌∙◌, subst, inl, inr, append_assoc, append-nil, arith}
use Rattle.lens.specs.Forms.{Text, Form, empty, one, seq, or, many, Matches, is_empty, is_one, is_seq, is_left, is_right, is_none, is_more}
use Rattle.automata.specs.Automaton.{Shape, stop, fork, Eats, Goes, Run, Runs, Acts, a_pass, a_none, a_one, a_seq, a_or, a_many}
use Rattle.automata.proofs.Runs.{run_stopped}
use Rattle.automata.proofs.Acting.{acts_eat, acts_back}
use Rattle.viable.specs.Viable.{Viable, Ranged}
use Rattle.viable.proofs.Splitting.{runs_split}

-- No form is of no text
some_text : (f : Form) → Ranged f → (u : Text) × Matches f u
some_text empty r = ([], is_empty)
some_text (one a b) r = (a ∷ [], is_one (omega arith) r.0)
some_text (seq f g) r = let (u, x) = some_text f r.0 in let (v, y) = some_text g r.1 in (u ++ v, is_seq u v x y)
some_text (or f g) r = let (u, x) = some_text f r.0 in (u, is_left x)
some_text (many f) r = ([], is_none)

-- Texts of f with a text that G takes behind
pub record Before (f : Form) (G : Text → Type 0) (t : Text) : Type 0 where
  pub front : Text
  pub back : Text
  pub whole : t ≡ front ++ back
  pub matches : Matches f front
  pub goes : G back

-- Some text that G takes begins with t.
abbrev Completed : (Text → Type 0) → Text → Type 0
Completed G t = (v : Text) × G (t ++ v)

module _ {G : Text → Type 0} where
  before_as : {f g : Form} {t : Text} → ((u : Text) → Matches f u → Matches g u) → Before f G t → Before g G t
  before_as h b = record { front = b.front; back = b.back; whole = b.whole; matches = h b.front b.matches; goes = b.goes }

  before_join : {f g h : Form} {t : Text} → ((u v : Text) → Matches f u → Matches g v → Matches h (u ++ v)) → Before f (Before g G) t → Before h G t
  before_join h b =
      let c = b.goes in
      record {
        front = b.front ++ c.front;
        back = c.back;
        whole = b.whole ∙ ap (λ z. b.front ++ z) c.whole ∙ sym (append_assoc b.front c.front c.back);
        matches = h b.front c.front b.matches c.matches;
        goes = c.goes;
      }

  begins : (f : Form) → Ranged f → Completed G [] → Completed (Before f G) []
  begins f r (w, g) = let (u, m) = some_text f r in (u ++ w, record { front = u; back = w; whole = refl; matches = m; goes = g })

module _ {A : Type 0} (shape : A → Shape A) (e : A) where
  -- What is read from n on, in k moves at most, can be completed.
  abbrev Onward : A → (Text → Type 0) → ℕ → Type 0
  Onward n G k = (j : ℕ) (t : Text) → j ≤ k → Run shape j n t e → Completed G t

  -- A run from p stops there at once, or has a first move.
  from_here : (f : Form) (G : Text → Type 0) (p : A) (k : ℕ) (t : Text) → Ranged f → Completed G [] →
      ((j : ℕ) → j < k → Goes (shape p) (λ q u. Run shape j q u e) t → Completed (Before f G) t) → Run shape k p t e →
      Completed (Before f G) t
  from_here f G p zero t r g go run = subst (λ z. Completed (Before f G) z) (sym run.1) (begins f r g)
  from_here f G p (suc k) t r g go run = go k (omega arith) run

  completes_one : (a b : ℕ) (G : Text → Type 0) (n : A) (j : ℕ) → Onward n G j → (t : Text) → Eats a b (λ u. Run shape j n u e) t →
      Completed (Before (one a b) G) t
  completes_one a b G n j h [] run = absurd run
  completes_one a b G n j h (x ∷ t) run =
      let (v, g) = h j t (omega arith) run.2 in
      (v, record { front = x ∷ []; back = t ++ v; whole = refl; matches = is_one run.0 run.1; goes = g })

  -- with as many turns as there are moves, at most
  completes_many : (f : Form) (G : Text → Type 0) (p q n : A) → Ranged f → Completed G [] → shape p ≡ fork n q →
      ((k : ℕ) → Onward p (Before (many f) G) k → (t : Text) → Run shape k q t e → Completed (Before f (Before (many f) G)) t) →
      (turns k : ℕ) → k ≤ turns → Onward n G k → (t : Text) → Run shape k p t e → Completed (Before (many f) G) t
  completes_many f G p q n r g s part zero k l h t run = from_here (many f) G p k t r g (λ j less go. absurd (omega arith)) run
  completes_many f G p q n r g s part (suc turns) k l h t run =
      from_here (many f) G p k t r g
      (λ j less go.
      let ways : Run shape j n t e ⊎ Run shape j q t e = rw s at go in
      elim ways [
        | inl on ↦ let (v, x) = h j t (omega arith) on in (v, record { front = []; back = t ++ v; whole = refl; matches = is_none; goes = x })
        | inr on ↦
            let (v, x) = part j (λ i u l' back. completes_many f G p q n r g s part turns i (omega arith) (λ i' w l''. h i' w (omega arith)) u back) t on in
            (v, before_join is_more x)
      ])
      run

  completes : {ok : A → Type 0} {f : Form} {p n : A} → Acts shape ok f p n → Ranged f → (G : Text → Type 0) → Completed G [] → (k : ℕ) →
      Onward n G k → (t : Text) → Run shape k p t e → Completed (Before f G) t
  completes {f = f} {p = p} (a_pass q o s a) r G g k h t run =
      from_here f G p k t r g (λ j less go. completes a r G g j (λ i u l. h i u (omega arith)) t (rw s at go)) run
  completes a_none r G g k h t run =
      let (v, x) = h k t (omega arith) run in (v, record { front = []; back = t ++ v; whole = refl; matches = is_empty; goes = x })
  completes {p = p} {n = n} (a_one {a = a} {b = b} o s) r G g k h t run =
      from_here (one a b) G p k t r g (λ j less go. completes_one a b G n j (λ i u l. h i u (omega arith)) t (rw s at go)) run
  completes (a_seq {f = f} {g = f'} m a b) r G g k h t run =
      let (v, x) = completes a r.0 (Before f' G) (begins f' r.1 g) k (λ j u l on. completes b r.1 G g j (λ i w l'. h i w (omega arith)) u on) t run in
      (v, before_join is_seq x)
  completes {p = p} {n = n} (a_or {f = f} {g = f'} q q' o s a b) r G g k h t run =
      from_here (or f f') G p k t r g
      (λ j less go.
      let ways : Run shape j q t e ⊎ Run shape j q' t e = rw s at go in
      elim ways [
        | inl on ↦ let (v, x) = completes a r.0 G g j (λ i u l. h i u (omega arith)) t on in (v, before_as (λ u. is_left) x)
        | inr on ↦ let (v, x) = completes b r.1 G g j (λ i u l. h i u (omega arith)) t on in (v, before_as (λ u. is_right) x)
      ])
      run
  completes {p = p} {n = n} (a_many {f = f} q o s a) r G g k h t run =
      completes_many f G p q n r g s (λ j back u. completes a r (Before (many f) G) (begins (many f) r g) j back u) k k (omega arith) h t run

module _ {A : Type 0} (shape : A → Shape A) {ok : A → Type 0} {f : Form} {p n : A} (a : Acts shape ok f p n) where
  -- Some state is come to with every front of a text of the form,
  pub viable_reached : (u : Text) → Viable f u → (q : A) × Runs shape p u q
  viable_reached u (v, m) = let (q, r, _) = runs_split shape p n u v (acts_eat shape a m) in (q, r)

  -- and with no other text.
  pub reached_viable : shape n ≡ stop → Ranged f → (u : Text) (q : A) → Runs shape p u q → Viable f u
  reached_viable s r u q (k, run) =
      let (v, b) = completes shape q a r (λ t. t ≡ []) ([], refl) k (λ j t l on. ([], append-nil t ∙ run_stopped shape j n t q s on)) u run in
      (v, subst (λ z. Matches f z) (sym (b.whole ∙ ap (λ z. b.front ++ z) b.goes ∙ append-nil b.front)) b.matches)

  -- The state behind the form is come to with the texts of the form, and with no other.
  pub matches_reached : (u : Text) → Matches f u → Runs shape p u n
  matches_reached u m = acts_eat shape a m

  pub reached_matches : shape n ≡ stop → (ok n → ⊥) → (u : Text) → Runs shape p u n → Matches f u
  reached_matches s out u (k, run) =
      let b = acts_back shape n k u out a run in
      let none = run_stopped shape b.left n b.rest n s b.goes_on in
      subst (λ z. Matches f z) (sym (b.whole ∙ ap (λ z. b.eaten ++ z) none ∙ append-nil b.eaten)) b.matches
