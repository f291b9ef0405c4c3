-- The laws of a clear view, from what two calls promise.
use mathlib.Core.Path.{◌≡◌, refl, sym, ap, subst, ◌∙◌}
use mathlib.Core.List.{List}
use Prim.Native.Nat.{ℕ, ◌+◌, ◌≤◌}
use native.Mathlib.Omega.{arith}
use lib.ListN.{length, take, length-take}
use Rattle.std.specs.Prelude.{Ok, Err}
use Rattle.lens.specs.Forms.{Text}
use Rattle.lens.specs.Views.{Shows, Puts}
use Rattle.lens.proofs.Works.{clear_works}
use Rattle.lens.proofs.Lawful.{clear_lawful}
use Rattle.rows.proofs.Unique.{one_view}
use Rattle.views.specs.declared.made.Refused.{Refused}
use Rattle.views.specs.declared.made.Refused.TheVariants.{Muddy, NoSuch, NoSource, NoLook, Full, Small}
use Rattle.views.specs.Room.{room}
use Rattle.views.specs.Made.{Made, Written, ShownSays, ShownPost}
use Rattle.views.specs.Put.{PutSays, PutPost}
use Rattle.round_trips.specs.Trips.{Unchanged, Seen}
use Rattle.round_trips.proofs.Certain.{room_more, shown_done, put_done}

-- What is written has no more bytes than were lent.
pub written_within : {t : Text} {o o' : List ℕ} {n : ℕ} → Written t o o' n → n ≤ length o'
written_within {o' = o'} {n} w = omega (arith, w.long, ap length w.front, length-take n o')

-- Answers other than done write nothing.
shown_kept : (s : List ℕ) (a : Text) {o o' : List ℕ} (r : Made) → ShownSays s a o o' r → ((n : ℕ) → r ≡ Ok n → ⊥) → o' ≡ o
shown_kept s a (Ok n) h not_done = absurd (not_done n refl)
shown_kept s a (Err Muddy) (v, e, unclear, kept) not_done = kept
shown_kept s a (Err NoSuch) (none, kept) not_done = kept
shown_kept s a (Err NoSource) (v, e, c, none, kept) not_done = kept
shown_kept s a (Err NoLook) never not_done = absurd never
shown_kept s a (Err Full) (v, u, e, c, sh, longer, kept) not_done = kept
shown_kept s a (Err Small) kept not_done = kept

put_kept : (s : List ℕ) (a b : Text) {o o' : List ℕ} (r : Made) → PutSays s a b o o' r → ((n : ℕ) → r ≡ Ok n → ⊥) → o' ≡ o
put_kept s a b (Ok n) h not_done = absurd (not_done n refl)
put_kept s a b (Err Muddy) (v, e, unclear, kept) not_done = kept
put_kept s a b (Err NoSuch) (none, kept) not_done = kept
put_kept s a b (Err NoSource) (v, e, c, none, kept) not_done = kept
put_kept s a b (Err NoLook) (v, e, c, fine, none, kept) not_done = kept
put_kept s a b (Err Full) (v, x, e, c, p, longer, kept) not_done = kept
put_kept s a b (Err Small) kept not_done = kept

-- Shown, and put back

module _ {s : List ℕ} {a : Text} {p p' : List ℕ} {w : ℕ} where
  -- Not shown, so nothing is put back.
  pub unchanged_refused : {o : List ℕ} {why : Refused} → ShownPost s a p p' w (Err why) → Unchanged s a (length p) o o w (Err why)
  unchanged_refused {why = why} shown = record {
    same = λ n is. cc;
    refused = λ _. refl;
    done = λ v u e c shows fits room' enough.
        let more = room_more s (length a) (length a + length u) (omega arith) in
        let done = shown_done e c shows shown fits (omega arith) in
        cc;
  }

  -- What was shown is put back: the source is what comes of it.
  pub unchanged_put : {b : Text} {o o' : List ℕ} {m w' : ℕ} {r : Made} → ShownSays s a p p' (Ok m) → b ≡ take m p' → w' ≡ w →
      PutPost s a b o o' w' r → Unchanged s a (length p) o o' w r
  unchanged_put {b} {o} {o'} {m} {r = r} (v, u, e, c, shows, written) is long put' = record {
    same = λ n done. back n (subst (λ r. PutSays s a b o o' r) done put.says);
    refused = put_kept s a b r put.says;
    done = λ v' u' e' c' shows' fits room' enough.
        let seen : u' ≡ u = (clear_works v c).shows_one a u' u (subst (λ v. Shows v a u') (one_view s v' v e' e) shows') shows in
        let long : length b ≡ length u' = ap length (looks ∙ sym seen) in
        put_done e c puts put room' (subst (λ n. room s (length a + n) ≤ w) (sym long) enough);
  }
    where
      put : PutPost s a b o o' w r
      put = subst (λ w. PutPost s a b o o' w r) long put'

      looks : b ≡ u
      looks = is ∙ written.front

      puts : Puts v b a a
      puts = subst (λ b. Puts v b a a) (sym looks) ((clear_lawful v c).shown_puts a u shows)

      back : (n : ℕ) → PutSays s a b o o' (Ok n) → Written a o o' n
      back n (k, x, e', c', p, out) =
          let same = (clear_works v c).puts_one b a x a (subst (λ k. Puts k b a x) (one_view s k v e' e) p) puts in
          subst (λ x. Written x o o' n) same out

-- Put back, and shown

module _ {s : List ℕ} {a b : Text} {p p' : List ℕ} {w : ℕ} where
  pub seen_refused : {o : List ℕ} {why : Refused} → PutPost s a b p p' w (Err why) → Seen s a b (length p) o o w (Err why)
  seen_refused {why = why} put = record {
    same = λ n is. cc;
    refused = λ _. refl;
    done = λ v x e c puts fits room' enough enough'.
        let done = put_done e c puts put fits enough in
        cc;
  }

  -- What comes of it is shown: it looks like the look that was put back.
  pub seen_shown : {x : Text} {o o' : List ℕ} {m w' : ℕ} {r : Made} → PutSays s a b p p' (Ok m) → x ≡ take m p' → w' ≡ w →
      ShownPost s x o o' w' r → Seen s a b (length p) o o' w r
  seen_shown {x} {o} {o'} {m} {r = r} (v, y, e, c, puts, written) is long shown' = record {
    same = λ n done. back n (subst (λ r. ShownSays s x o o' r) done shown.says);
    refused = shown_kept s x r shown.says;
    done = λ v' y' e' c' puts' fits room' enough enough'.
        let came : y' ≡ y = (clear_works v c).puts_one b a y' y (subst (λ v. Puts v b a y') (one_view s v' v e' e) puts') puts in
        let long : length x ≡ length y' = ap length (makes ∙ sym came) in
        shown_done e c shows shown room' (subst (λ n. room s n ≤ w) (sym long) enough');
  }
    where
      shown : ShownPost s x o o' w r
      shown = subst (λ w. ShownPost s x o o' w r) long shown'

      makes : x ≡ y
      makes = is ∙ written.front

      shows : Shows v x b
      shows = subst (λ x. Shows v x b) (sym makes) ((clear_lawful v c).put_shows b a y puts)

      back : (n : ℕ) → ShownSays s x o o' (Ok n) → Written b o o' n
      back n (k, u, e', c', sh, out) =
          let same = (clear_works v c).shows_one x u b (subst (λ k. Shows k x u) (one_view s k v e' e) sh) shows in
          subst (λ u. Written u o o' n) same out
