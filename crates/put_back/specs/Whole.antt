-- What comes of a whole look that is put back into a whole source, and that there is one such text if the view is clear.
use Rattle.std.specs.Prelude.{◌≡◌, ℕ, List}
use Rattle.lens.specs.Forms.{Text}
use Rattle.lens.specs.Views.{View, Puts}
use Rattle.lens.specs.Clear.{Clear}
use Rattle.lens.proofs.Works.{clear_works}
use Rattle.walk.specs.declared.cut_text.CutText.{CutText}
use Rattle.walk.specs.Turned.{WholeWalk}

-- The whole of both texts is cut by a clear view.
pub record CutBoth (row : List ℕ) (source look : CutText) : Type 0 where
  pub view : View
  pub clear : Clear view
  pub in_source : WholeWalk row source view
  pub in_look : WholeWalk row look view

-- The look put back into the source gives x.
pub record PutWhole (row : List ℕ) (source look : CutText) (x : Text) : Type 0 where
  pub puts : (v : View) → WholeWalk row source v → Puts v look.scanned.text.now source.scanned.text.now x

pub put_one : {row : List ℕ} {source look : CutText} {x y : Text} → CutBoth row source look → PutWhole row source look x → PutWhole row source look y → x ≡ y
put_one c a b = (clear_works c.view c.clear).puts_one _ _ _ _ (a.puts c.view c.in_source) (b.puts c.view c.in_source)
