-- Sequences of edits: what holds of one put holds of many, one after the other.
-- Not here: the one put (Lawful, Works).
use mathlib.Core.Path.{◌≡◌, refl, subst}
use mathlib.Core.List.{List, [], ◌∷◌, ◌++◌}
use Rattle.lens.specs.Forms.{Text, Matches}
use Rattle.lens.specs.Views.{View, sources, Shows}
use Rattle.lens.specs.Laws.{Works, Lawful, Edits, e_none, e_more, AllLooks, ClearLasting}
use Rattle.lens.proofs.Lawful.{clear_lawful}
use Rattle.lens.proofs.Works.{clear_works}

-- Edits one after the other are joined, and cut where one likes.
pub edits_join : {l : View} {s x r : Text} {us vs : List Text} → Edits l s us x → Edits l x vs r → Edits l s (us ++ vs) r
edits_join e_none b = b
edits_join (e_more p a) b = e_more p (edits_join a b)

pub edits_cut : {l : View} (us : List Text) {vs : List Text} {s r : Text} → Edits l s (us ++ vs) r → (x : Text) × Edits l s us x × Edits l x vs r
edits_cut [] {s = s} a = (s, e_none, a)
edits_cut (u ∷ us) (e_more p a) = let (x, b, c) = edits_cut us a in (x, e_more p b, c)

module _ (l : View) (works : Works l) (laws : Lawful l) where
  -- Any looks can be put back one after the other, with one result.
  edits : (us : List Text) {s : Text} → Matches (sources l) s → AllLooks l us → (r : Text) × Edits l s us r × Matches (sources l) r
  edits [] {s = s} m n = (s, e_none, m)
  edits (u ∷ us) {s = s} m n =
      let (x, p, k) = works.puts u s n.0 m in
      let (r, a, i) = edits us k n.1 in
      (r, e_more p a, i)

  edits_one : {us : List Text} {s t q r : Text} → Edits l s us q → Edits l t us r → s ≡ t → q ≡ r
  edits_one e_none e_none e = e
  edits_one (e_more p a) (e_more q b) e = edits_one a b (works.puts_one _ _ _ _ p (rw (← e) at q))

  -- One edit shows its look.
  edit_shows : {s u r : Text} → Edits l s (u ∷ []) r → Shows l r u
  edit_shows (e_more p e_none) = laws.put_shows _ _ _ p

  -- The edits that come after the first ones start where those end.
  edits_rest : {us vs : List Text} {s x r : Text} → Edits l s us x → Edits l s (us ++ vs) r → Edits l x vs r
  edits_rest {us = us} {vs = vs} {r = r} a b = let (y, c, d) = edits_cut us b in subst (λ y. Edits l y vs r) (edits_one c a refl) d

  -- A first look that is seen already leaves the source as it is.
  shown_first : {s u r : Text} {us : List Text} → Shows l s u → Edits l s (u ∷ us) r → Edits l s us r
  shown_first {r = r} {us = us} h (e_more p a) = subst (λ x. Edits l x us r) (works.puts_one _ _ _ _ p (laws.shown_puts _ _ h)) a

pub clear_lasting : ClearLasting
clear_lasting l c =
    let w = clear_works l c in
    let h = clear_lawful l c in
    record {
      edits = λ s us m n. edits l w h us m n;
      edits_one = λ s q r us a b. edits_one l w h a b refl;
      last_shows = λ s u r us a. edit_shows l w h (edits_cut us a).2;
      shown_stays = λ s x u r us vs a n. (
        λ b. edits_join a (e_more (h.shown_puts x u n) (edits_rest l w h a b)),
        λ b. edits_join a (shown_first l w h n (edits_rest l w h a b)),
      );
    }
