-- Any number of parts of a look, put one after the other into the parts of a source.
use Rattle.std.proofs.Common.{◌≡◌, ℕ, ◌-◌, ◌<◌, ◌≤◌, List, [], ◌++◌, take, drop, sym, refl, ap, ◌∙◌, subst, append_assoc, append-nil, le_refl, arith}
use Rattle.lens.specs.Forms.{Text, many, Matches}
use Rattle.lens.specs.Views.{View, each, sources, Makes, Puts, p_none, p_both, p_new}
use Rattle.clear.specs.Sides.{side_form}
use Rattle.marks.proofs.Cuts.{cut_ordered}
use Rattle.walk.specs.declared.cut_text.CutText.{CutText}
use Rattle.walk.specs.Spans.{slice}
use Rattle.walk.specs.Turns.{Turns, GivesSome}
use Rattle.walk.specs.Walks.{Ends, CutSeries}
use Rattle.walk.proofs.Holding.{series_piece}
use Rattle.walk.proofs.Pieces.{slice_both, slice_none}
use Rattle.walk.proofs.Descending.{first_walks}
use Rattle.walk.proofs.Giving.{Joins}
use Rattle.walk.specs.declared.span.Span.{Span}
use Rattle.put_back.specs.Pairs.{Pair, in_span, WalkIn, WalkBoth, NextBoth, Putting, PutNext}
use Rattle.put_back.proofs.Joining.{PartPuts, makes}

puts_at : {v : View} {u u' s s' x x' : Text} → u ≡ u' → s ≡ s' → x ≡ x' → Puts v u s x → Puts v u' s' x'
puts_at {v} {u} {u'} {s} {s'} {x} a b c p = subst (λ x. Puts v u' s' x) c (subst (λ s. Puts v u' s x) b (subst (λ u. Puts v u s x) a p))

-- No part yet; one part, put back or made; one more part; no more parts

putting_both : {l : View} {u s : Text} {Used : Type 0} {P : Text → Type 0} → GivesSome (Puts l u s) P → Putting l u s Used P
putting_both {u = u} {s} g = record { out = g.out; took = g.took; goes = λ v t y c p. p_both u v s t g.out y g.holds p }

putting_new : {l : View} {u : Text} {Used : Type 0} {P : Text → Type 0} → Used → GivesSome (Makes l u) P → Putting l u [] Used P
putting_new {l} {u} used g = record {
  out = g.out;
  took = g.took;
  goes = λ v t y c p.
      let none = c used in
      subst (λ t. Puts (each l) (u ++ v) t (g.out ++ y)) (sym none) (p_new u v g.out y g.holds (subst (λ t. Puts (each l) v t y) none p));
}

putting_more : {l : View} {u u' s s' : Text} {Used Used' : Type 0} {P Q R : Text → Type 0} → (Used → Used' × (s' ≡ [])) →
    Putting l u s Used P → Putting l u' s' Used' Q → Joins P Q R → Putting l (u ++ u') (s ++ s') Used' R
putting_more {l} {u} {u'} {s} {s'} used a b joins = record {
  out = a.out ++ b.out;
  took = joins _ _ a.took b.took;
  goes = λ v t y c p.
      puts_at (sym (append_assoc u u' v)) (sym (append_assoc s s' t)) (sym (append_assoc a.out b.out y))
      (a.goes (u' ++ v) (s' ++ t) (b.out ++ y) (λ d. ap (λ s. s ++ t) (used d).1 ∙ c (used d).0) (b.goes v t y c p));
}

putting_done : {l : View} {u s : Text} {Used : Type 0} {P : Text → Type 0} → Putting l u s Used P → (t : Text) → Matches (many (sources l)) t →
    (Used → t ≡ []) → GivesSome (Puts (each l) u (s ++ t)) P
putting_done {u = u} {s} g t rest used = record {
  out = g.out;
  holds = puts_at (append-nil u) refl (append-nil g.out) (g.goes [] t [] used (p_none rest));
  took = g.took;
}

-- The same of parts that are known to be others.
putting_at : {l : View} {u u' s s' : Text} {Used : Type 0} {P : Text → Type 0} → u ≡ u' → s ≡ s' → Putting l u' s' Used P → Putting l u s Used P
putting_at {l} {u} {s' = s'} {Used} {P} a b p = subst (λ s. Putting l u s Used P) (sym b) (subst (λ u. Putting l u s' Used P) (sym a) p)

-- Nothing stands between a place and one before it.
slice_past : (text : Text) (i e : ℕ) → e ≤ i → slice text i e ≡ []
slice_past text i e past = let none : e - i ≡ 0 = omega arith in ap (λ n. take n (drop i text)) none

module _ {row : List ℕ} {source look : CutText} (pair : Pair source look) where
  -- The parts of the source that are left
  left_piece : {place i e : ℕ} {l : View} → CutSeries row source place i e l → (i ≤ e) × Matches (many (sources l)) (slice source.scanned.text.now i e)
  left_piece {i = i} {e} {l} s =
      let p = series_piece s.held in
      (p.ordered, subst (λ side. Matches (many (side_form side l)) (slice source.scanned.text.now i e)) pair.source_side p.matches)

  -- One part of the look: made if the source is used up, and else put into the next part
  module _ {place : ℕ} {rest part : Span} {l : View} {P : Text → Type 0} where
    pub next_made : rest.end ≤ rest.at → ((v : View) → WalkIn row look place part v → GivesSome (Turns look.side v (in_span look part)) P) →
        NextBoth row source look place rest part l → PutNext row source look place rest part l P rest.at
    next_made used given n =
        let g = given l n.in_look in
        record {
          left = n.in_source;
          onward = le_refl rest.at;
          used = λ _. refl;
          puts = putting_at refl (slice_none source.scanned.text.now rest.at) (putting_new used (record { out = g.out; holds = makes pair g.holds; took = g.took }));
        }

    pub next_put : {m : ℕ} → rest.at < rest.end → Ends source place rest.at m →
        ((v : View) → WalkBoth row source look place (record { at = rest.at; end = m }) part v → PartPuts source look v (record { at = rest.at; end = m }) part P) →
        NextBoth row source look place rest part l → PutNext row source look place rest part l P m
    next_put more ends given n =
        let (first, others, less) = first_walks ends more n.in_source in
        record {
          left = others;
          onward = omega arith;
          used = λ past. absurd (omega arith);
          puts = putting_both (given l (record { in_source = first; in_look = n.in_look }));
        }

-- All parts of the look up to `to` were put into the parts of the source up to `from`.
abbrev pub PutUntil : CutText → CutText → View → Span → Span → ℕ → ℕ → (Text → Type 0) → Type 0
PutUntil source look l old new from to =
    Putting l (slice look.scanned.text.now new.at to) (slice source.scanned.text.now old.at from) (old.end ≤ from)

module _ {row : List ℕ} {source look : CutText} (pair : Pair source look) {place : ℕ} (old new : Span) {l : View} where
  pub all_more : {from to n r : ℕ} {P Q R : Text → Type 0} → old.at ≤ from → new.at ≤ to → to ≤ n → PutUntil source look l old new from to P →
      PutNext row source look place (record { at = from; end = old.end }) (record { at = to; end = n }) l Q r → Joins P Q R →
      PutUntil source look l old new r n R
  all_more {from} {to} {n} {r} low low' high before next joins =
      putting_at (slice_both look.scanned.text.now new.at to n low' high) (slice_both source.scanned.text.now old.at from r low next.onward)
      (putting_more
      (λ past. let same = next.used past in (omega arith, slice_past source.scanned.text.now from r (omega arith)))
      before next.puts joins)

  pub all_done : {from to : ℕ} {P : Text → Type 0} → old.at ≤ from → new.end ≤ to → CutSeries row source place from old.end l →
      CutSeries row look place to new.end l → PutUntil source look l old new from to P → PartPuts source look (each l) old new P
  all_done {from} {to} {P} low past left rest given =
      let ordered = cut_ordered rest.held.cut in
      let same : to ≡ new.end = omega arith in
      let (fine, matches) = left_piece pair left in
      let text = source.scanned.text.now in
      let whole = slice_both text old.at from old.end low fine in
      subst (λ to. GivesSome (Puts (each l) (slice look.scanned.text.now new.at to) (in_span source old)) P) same
      (subst (λ s. GivesSome (Puts (each l) (slice look.scanned.text.now new.at to) s) P) (sym whole)
      (putting_done given (slice text from old.end) matches (λ used. slice_past text from old.end used)))
