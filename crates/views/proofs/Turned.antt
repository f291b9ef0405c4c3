-- The answers of `show` and `make`: what was delivered is what the text turns into.
use Rattle.std.proofs.Common.{◌≡◌, ℕ, ◌-◌, List, Ok, Err, length, sym, subst, arith}
use Rattle.std.proofs.lemmas.List.{take_all}
use Rattle.lens.specs.Forms.{Text, Matches}
use Rattle.clear.specs.declared.side.Side.{Side}
use Rattle.clear.specs.declared.side.Side.TheVariants.{Source, Look}
use Rattle.clear.specs.Sides.{side_form}
use Rattle.walk.specs.declared.cut_text.CutText.{CutText}
use Rattle.walk.specs.Turns.{Turns}
use Rattle.walk.specs.Turned.{TurnedWhole, on_shown, on_made}
use Rattle.walk.specs.Delivers.{Delivered}
use Rattle.walk.proofs.Descending.{walk_piece}
use Rattle.views.specs.declared.made.Refused.TheVariants.{Muddy, NoSuch, NoSource, NoLook, Full, Small}
use Rattle.views.specs.Cut.{ClearRow, CutBy}
use Rattle.views.specs.Made.{Made, ShownSays, MadeSays, TurnedSays, ShownPost, MadePost, TurnedPost, ClearedPost}

module _ {side : Side} {s : List ℕ} {text : Text} (c : ClearRow s) {cut : CutText} (by : CutBy side s text cut) where
  -- A text that is cut is of the form of its side.
  pub cut_matches : Matches (side_form side c.view) text
  cut_matches =
      let all = (walk_piece (by.walk c.view c.encodes)).2 in
      let whole = subst (Matches (side_form cut.side c.view)) (take_all (length cut.scanned.text.now - 0) cut.scanned.text.now (omega arith)) all in
      subst (λ side. Matches (side_form side c.view) text) by.side_is (subst (Matches (side_form cut.side c.view)) by.text_is whole)

  turns : {u : Text} → TurnedWhole s cut u → Turns side c.view text u
  turns {u} t =
      subst (λ side. Turns side c.view text u) by.side_is
      (subst (λ a. Turns cut.side c.view a u) by.text_is (t.turns c.view (by.walk c.view c.encodes)))

  pub turned_done : {o o' : List ℕ} {n : ℕ} → Delivered (TurnedWhole s cut) o o' n → ClearedPost side s text o o' (Ok n)
  turned_done h = record {
    says = (c.view, h.text, c.encodes, c.clear, turns h.holds, record { long = h.long; front = h.front; rest = h.rest });
    large = λ e. cc;
  }

-- From what is said of a side to what the two calls promise
two_sides : {X : Type 0} → Source ≡ Look → X
two_sides e = cc

shown_says : (s : List ℕ) (a : Text) (o o' : List ℕ) (r : Made) → TurnedSays Source s a o o' r → ShownSays s a o o' r
shown_says s a o o' (Ok n) (v, u, e, c, t, w) = (v, u, e, c, on_shown t, w)
shown_says s a o o' (Err Muddy) h = h
shown_says s a o o' (Err NoSuch) h = h
shown_says s a o o' (Err NoSource) h = h.1
shown_says s a o o' (Err NoLook) h = two_sides h.0
shown_says s a o o' (Err Full) (v, u, e, c, t, l, k) = (v, u, e, c, on_shown t, l, k)
shown_says s a o o' (Err Small) h = h

made_says : (s : List ℕ) (a : Text) (o o' : List ℕ) (r : Made) → TurnedSays Look s a o o' r → MadeSays s a o o' r
made_says s a o o' (Ok n) (v, u, e, c, t, w) = (v, u, e, c, on_made t, w)
made_says s a o o' (Err Muddy) h = h
made_says s a o o' (Err NoSuch) h = h
made_says s a o o' (Err NoSource) h = two_sides (sym h.0)
made_says s a o o' (Err NoLook) h = h.1
made_says s a o o' (Err Full) (v, u, e, c, t, l, k) = (v, u, e, c, on_made t, l, k)
made_says s a o o' (Err Small) h = h

pub shown_post : {s : List ℕ} {a : Text} {o o' : List ℕ} {w : ℕ} {r : Made} → TurnedPost Source s a o o' w r → ShownPost s a o o' w r
shown_post {s} {a} {o} {o'} {r = r} h = record { says = shown_says s a o o' r h.says; small = h.small }

pub made_post : {s : List ℕ} {a : Text} {o o' : List ℕ} {w : ℕ} {r : Made} → TurnedPost Look s a o o' w r → MadePost s a o o' w r
made_post {s} {a} {o} {o'} {r = r} h = record { says = made_says s a o o' r h.says; small = h.small }
