-- The three kinds of parts of a view, read alike: forms, views, and texts with their length.
use Rattle.std.specs.Prelude.{ℕ, List, Option}
use Rattle.lens.specs.Forms.{Form, Text}
use Rattle.lens.specs.Views.{View}
use Rattle.rows.specs.declared.parts.Kind.{Kind}
use Rattle.rows.specs.declared.parts.Kind.TheVariants.{Form as of_form, View as of_view, Text as of_text}
use Rattle.rows.specs.Rows.{form_row, view_row, text_row, FormFine, ViewFine, TextFine}
use Rattle.rows.specs.Stands.{Ends, both_row, BothFine}

abbrev pub Part : Kind → Type 0
Part of_form = Form
Part of_view = View
Part of_text = Text

abbrev pub part_row : (k : Kind) → Part k → List ℕ
part_row of_form = form_row
part_row of_view = view_row
part_row of_text = text_row

abbrev pub PartFine : (k : Kind) → Part k → Type 0
PartFine of_form = FormFine
PartFine of_view = ViewFine
PartFine of_text = TextFine

-- Where a part of kind k ends, and where two of them end that stand one after the other.
abbrev pub PartEnds : Kind → List ℕ → ℕ → Option ℕ → Type 0
PartEnds k = Ends (part_row k) (PartFine k)

abbrev pub PairEnds : Kind → List ℕ → ℕ → Option ℕ → Type 0
PairEnds k = Ends (both_row (part_row k) (part_row k)) (BothFine (PartFine k) (PartFine k))
