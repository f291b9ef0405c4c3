-- The answers of `put`: what was delivered is what comes of the look put back into the source.
use Rattle.std.proofs.Common.{ℕ, ◌+◌, ◌≤◌, List, Ok, Err, length, refl, subst, arith}
use Rattle.lens.specs.Forms.{Text, Matches}
use Rattle.lens.specs.Views.{View, looks, Puts}
use Rattle.clear.specs.declared.side.Side.TheVariants.{Source, Look}
use Rattle.rows.specs.Rows.{Encodes}
use Rattle.walk.specs.declared.cut_text.CutText.{CutText}
use Rattle.walk.specs.Delivers.{Delivered}
use Rattle.put_back.specs.Whole.{PutWhole}
use Rattle.views.specs.declared.made.Refused.{Refused}
use Rattle.views.specs.declared.made.Refused.TheVariants.{Muddy, NoSuch, NoSource, NoLook, Full, Small}
use Rattle.views.specs.Room.{room}
use Rattle.views.specs.Admits.{Rejected}
use Rattle.views.specs.Cut.{ClearRow, CutBy}
use Rattle.views.specs.Made.{Made}
use Rattle.views.specs.Put.{PutPost, PutClearedPost}
use Rattle.views.proofs.Answered.{theorems}
use Rattle.views.proofs.Turned.{cut_matches}

-- A call that was refused before any text was cut.
pub put_rejected : {s : List ℕ} {a b : Text} {o : List ℕ} {w : ℕ} (why : Refused) → Rejected s (length a + length b) w why → PutPost s a b o o w (Err why)
put_rejected Muddy (enough, (v, e, unclear)) = record { says = (v, e, unclear, refl); small = (λ less. absurd (omega arith), λ is. cc); theorems = theorems }
put_rejected NoSuch (enough, none) = record { says = (none, refl); small = (λ less. absurd (omega arith), λ is. cc); theorems = theorems }
put_rejected NoSource never = absurd never
put_rejected NoLook never = absurd never
put_rejected Full never = absurd never
put_rejected Small few = record { says = refl; small = (λ less. refl, λ is. few); theorems = theorems }

-- What a view that is clear does, where there are enough words.
pub put_admitted : {s : List ℕ} {a b : Text} {o o' : List ℕ} {w : ℕ} {r : Made} → room s (length a + length b) ≤ w → PutClearedPost s a b o o' r → PutPost s a b o o' w r
put_admitted enough h = record { says = h.says; small = (λ less. absurd (omega arith), λ is. absurd (h.large is)); theorems = theorems }

module _ {s : List ℕ} {a b : Text} (c : ClearRow s) {source : CutText} (old : CutBy Source s a source) where
  pub put_no_look : {o : List ℕ} → ((v : View) → Encodes s v → Matches (looks v) b → ⊥) → PutClearedPost s a b o o (Err NoLook)
  put_no_look none = record {
    says = (c.view, c.encodes, c.clear, cut_matches c old, none c.view c.encodes, refl);
    large = λ e. cc;
  }

  module _ {look : CutText} (new : CutBy Look s b look) where
    -- The text that was delivered is what comes of the look and the source.
    puts : {x : Text} → PutWhole s source look x → Puts c.view b a x
    puts {x} p =
        subst (λ b. Puts c.view b a x) new.text_is
        (subst (λ a. Puts c.view look.scanned.text.now a x) old.text_is (p.puts c.view (old.walk c.view c.encodes)))

    pub put_done : {o o' : List ℕ} {n : ℕ} → Delivered (PutWhole s source look) o o' n → PutClearedPost s a b o o' (Ok n)
    put_done h = record {
      says = (c.view, h.text, c.encodes, c.clear, puts h.holds, record { long = h.long; front = h.front; rest = h.rest });
      large = λ e. cc;
    }
