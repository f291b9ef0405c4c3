-- What one node of a row says: its tag, what belongs to it alone, and where its parts begin.
use Rattle.std.specs.Prelude.{◌≡◌, ℕ, ◌+◌, List, [], ◌∷◌, Some, None, Option}
use Rattle.lens.specs.Forms.{empty, one}
use Rattle.rows.specs.declared.nodes.FormNode.{FormNode}
use Rattle.rows.specs.declared.nodes.FormNode.TheVariants.{Empty, One, Seq, Or, Many}
use Rattle.rows.specs.declared.nodes.ViewNode.{ViewNode}
use Rattle.rows.specs.declared.nodes.ViewNode.TheVariants.{Copy, Hide, Then, Swap, Either, Each}
use Rattle.rows.specs.Rows.{form_row, view_row, FormFine, ViewFine}
use Rattle.rows.specs.Stands.{Nowhere, Heads}

-- The tag t stands at `at`, and the parts begin at i, behind it.
pub record Tagged (s : List ℕ) (at t i : ℕ) : Type 0 where
  pub heads : Heads s at (t ∷ [])
  pub behind : i ≡ at + 1

abbrev pub IsFormNode : List ℕ → ℕ → Option FormNode → Type 0
IsFormNode s at (Some Empty) = Heads s at (form_row empty)
IsFormNode s at (Some (One a b)) = Heads s at (form_row (one a b)) × FormFine (one a b)
IsFormNode s at (Some (Seq i)) = Tagged s at 2 i
IsFormNode s at (Some (Or i)) = Tagged s at 3 i
IsFormNode s at (Some (Many i)) = Tagged s at 4 i
IsFormNode s at None = Nowhere form_row FormFine s at

abbrev pub IsViewNode : List ℕ → ℕ → Option ViewNode → Type 0
IsViewNode s at (Some (Copy i)) = Tagged s at 10 i
IsViewNode s at (Some (Hide i)) = Tagged s at 11 i
IsViewNode s at (Some (Then i)) = Tagged s at 12 i
IsViewNode s at (Some (Swap i)) = Tagged s at 13 i
IsViewNode s at (Some (Either i)) = Tagged s at 14 i
IsViewNode s at (Some (Each i)) = Tagged s at 15 i
IsViewNode s at None = Nowhere view_row ViewFine s at
