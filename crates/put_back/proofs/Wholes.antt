-- What comes of the whole of a look and a source.
use Rattle.std.proofs.Common.{◌≡◌, ℕ, ◌-◌, List, length, sym, subst, arith}
use Rattle.std.proofs.lemmas.List.{take_all}
use Rattle.lens.specs.Forms.{Text}
use Rattle.lens.specs.Views.{View, Puts}
use Rattle.walk.specs.declared.cut_text.CutText.{CutText}
use Rattle.walk.specs.Spans.{slice, all_of}
use Rattle.walk.specs.Turns.{GivesSome}
use Rattle.walk.proofs.Giving.{same_view}
use Rattle.put_back.specs.Pairs.{WalkBoth}
use Rattle.put_back.specs.Whole.{CutBoth, PutWhole}
use Rattle.put_back.proofs.Joining.{PartPuts, puts_texts}

slice_all : (text : Text) → text ≡ slice text 0 (length text)
slice_all text = sym (take_all (length text - 0) text (omega arith))

pub put_whole : {row : List ℕ} {source look : CutText} {P : Text → Type 0} → CutBoth row source look →
    ((v : View) → WalkBoth row source look 0 (all_of source.scanned.text.now) (all_of look.scanned.text.now) v → PartPuts source look v (all_of source.scanned.text.now) (all_of look.scanned.text.now) P) →
    GivesSome (PutWhole row source look) P
put_whole {source = source} {look} c given =
    let g = given c.view (record { in_source = c.in_source; in_look = c.in_look }) in
    let whole = puts_texts (slice_all look.scanned.text.now) (slice_all source.scanned.text.now) g in
    record {
      out = whole.out;
      holds = record { puts = λ v w. subst (λ v. Puts v look.scanned.text.now source.scanned.text.now whole.out) (same_view c.in_source.laid w.laid) whole.holds };
      took = whole.took;
    }
