-- What holds of every clear view, as statements; their proofs are in proofs/.
use Rattle.std.specs.Prelude.{◌≡◌, ◌↔◌, List, [], ◌∷◌, ◌++◌}
use Rattle.lens.specs.Forms.{Text, Matches}
use Rattle.lens.specs.Views.{View, sources, looks, Shows, Makes, Puts}
use Rattle.lens.specs.Clear.{Clear}

-- A view works if it shows each source in one way, makes one source of each look, and puts each look back
-- into each source in one way; what comes out is of the form that it should be.
pub record Works (l : View) : Type 0 where
  pub shows : (s : Text) → Matches (sources l) s → (u : Text) × Shows l s u × Matches (looks l) u
  pub shows_one : (s u v : Text) → Shows l s u → Shows l s v → u ≡ v
  pub makes : (u : Text) → Matches (looks l) u → (s : Text) × Makes l u s × Matches (sources l) s
  pub makes_one : (u s t : Text) → Makes l u s → Makes l u t → s ≡ t
  pub puts : (u s : Text) → Matches (looks l) u → Matches (sources l) s → (x : Text) × Puts l u s x × Matches (sources l) x
  pub puts_one : (u s x y : Text) → Puts l u s x → Puts l u s y → x ≡ y

abbrev pub ClearWorks : Type 0
ClearWorks = (l : View) → Clear l → Works l

-- The laws of a lens: what is put back is what one then sees; putting back what one sees changes nothing;
-- a source made from a look shows that look.
pub record Lawful (l : View) : Type 0 where
  pub put_shows : (u s x : Text) → Puts l u s x → Shows l x u
  pub shown_puts : (s u : Text) → Shows l s u → Puts l u s s
  pub make_shows : (u s : Text) → Makes l u s → Shows l s u

abbrev pub ClearLawful : Type 0
ClearLawful = (l : View) → Clear l → Lawful l

-- `Edits l s us r`: the looks us, put back one after the other, take the source s to r.
pub data Edits : View → Text → List Text → Text → Type 0 where
  e_none : {l : View} {s : Text} → Edits l s [] s
  e_more : {l : View} {u s x r : Text} {us : List Text} → Puts l u s x → Edits l x us r → Edits l s (u ∷ us) r

-- Each text of a list is a look.
abbrev pub AllLooks : View → List Text → Type 0
AllLooks l [] = Unit {0}
AllLooks l (u ∷ us) = Matches (looks l) u × AllLooks l us

-- The laws last over a sequence of edits: any looks can be put back one after the other, with one result,
-- a source again; it shows the look that came last; and putting back, at any point of the sequence, what
-- one sees there leaves the result as it is.
pub record Lasting (l : View) : Type 0 where
  pub edits : (s : Text) (us : List Text) → Matches (sources l) s → AllLooks l us → (r : Text) × Edits l s us r × Matches (sources l) r
  pub edits_one : (s q r : Text) (us : List Text) → Edits l s us q → Edits l s us r → q ≡ r
  pub last_shows : (s u r : Text) (us : List Text) → Edits l s (us ++ (u ∷ [])) r → Shows l r u
  pub shown_stays : (s x u r : Text) (us vs : List Text) → Edits l s us x → Shows l x u → Edits l s (us ++ vs) r ↔ Edits l s (us ++ (u ∷ vs)) r

abbrev pub ClearLasting : Type 0
ClearLasting = (l : View) → Clear l → Lasting l
