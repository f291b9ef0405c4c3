-- Where a call must be done: the view is clear, the texts are of its forms, and there is room.
use mathlib.Core.Path.{◌≡◌, refl, ap, subst, ◌∙◌}
use mathlib.Core.List.{List}
use Prim.Native.Nat.{ℕ, ◌+◌, ◌*◌, ◌≤◌, min}
use native.Mathlib.Nat.{mul-le-mul_left}
use native.Mathlib.Omega.{arith}
use lib.ListN.{length}
use Rattle.std.specs.Prelude.{Ok, Err}
use Rattle.lens.specs.Forms.{Text}
use Rattle.lens.specs.Views.{View, Shows, Puts}
use Rattle.lens.specs.Clear.{Clear}
use Rattle.lens.proofs.Works.{clear_works}
use Rattle.lens.proofs.Sides.{shows_source, puts_source, puts_look}
use Rattle.rows.specs.Rows.{Encodes}
use Rattle.rows.proofs.Unique.{one_view}
use Rattle.views.specs.declared.made.Refused.TheVariants.{Muddy, NoSuch, NoSource, NoLook, Full, Small}
use Rattle.views.specs.Room.{room}
use Rattle.views.specs.Made.{Made, ShownSays, ShownPost}
use Rattle.views.specs.Put.{PutSays, PutPost}

-- More bytes want more room.
pub room_more : (s : List ℕ) (m n : ℕ) → m ≤ n → room s m ≤ room s n
room_more s m n more =
    let cells : (1 + min 1025 (length s)) * (1 + m) ≤ (1 + min 1025 (length s)) * (1 + n) = mul-le-mul_left (1 + min 1025 (length s)) (omega arith) in
    omega arith

module _ {s : List ℕ} {v : View} (e : Encodes s v) (c : Clear v) where
  -- The view that an answer speaks of is this one.
  same_clear : (k : View) → Encodes s k → (Clear k → ⊥) → ⊥
  same_clear k e' unclear = unclear (subst Clear (one_view s v k e e') c)

  module _ {a u : Text} (shows : Shows v a u) where
    shown_of : (k : View) (w : Text) → Encodes s k → Shows k a w → w ≡ u
    shown_of k w e' sh = (clear_works v c).shows_one a w u (subst (λ k. Shows k a w) (one_view s k v e' e) sh) shows

    says_shown : (o o' : List ℕ) → length u ≤ length o → (r : Made) → ShownSays s a o o' r → (r ≡ Err Small → ⊥) → r ≡ Ok (length u)
    says_shown o o' fits (Ok n) (k, w, e', c', sh, written) large = ap Ok (written.long ∙ ap length (shown_of k w e' sh))
    says_shown o o' fits (Err Muddy) (k, e', unclear, kept) large = absurd (same_clear k e' unclear)
    says_shown o o' fits (Err NoSuch) (none, kept) large = absurd (none v e)
    says_shown o o' fits (Err NoSource) (k, e', c', none, kept) large = absurd (none (shows_source (subst (λ k. Shows k a u) (one_view s v k e e') shows)))
    says_shown o o' fits (Err NoLook) never large = absurd never
    says_shown o o' fits (Err Full) (k, w, e', c', sh, longer, kept) large = let same = ap length (shown_of k w e' sh) in absurd (omega arith)
    says_shown o o' fits (Err Small) kept large = absurd (large refl)

    pub shown_done : {o o' : List ℕ} {w : ℕ} {r : Made} → ShownPost s a o o' w r → length u ≤ length o → room s (length a) ≤ w → r ≡ Ok (length u)
    shown_done {o} {o'} {r = r} post fits enough = says_shown o o' fits r post.says (λ small. let few = post.small.1 small in omega arith)

  module _ {a b x : Text} (puts : Puts v b a x) where
    put_of : (k : View) (w : Text) → Encodes s k → Puts k b a w → w ≡ x
    put_of k w e' p = (clear_works v c).puts_one b a w x (subst (λ k. Puts k b a w) (one_view s k v e' e) p) puts

    puts_at : (k : View) → Encodes s k → Puts k b a x
    puts_at k e' = subst (λ k. Puts k b a x) (one_view s v k e e') puts

    says_put : (o o' : List ℕ) → length x ≤ length o → (r : Made) → PutSays s a b o o' r → (r ≡ Err Small → ⊥) → r ≡ Ok (length x)
    says_put o o' fits (Ok n) (k, w, e', c', p, written) large = ap Ok (written.long ∙ ap length (put_of k w e' p))
    says_put o o' fits (Err Muddy) (k, e', unclear, kept) large = absurd (same_clear k e' unclear)
    says_put o o' fits (Err NoSuch) (none, kept) large = absurd (none v e)
    says_put o o' fits (Err NoSource) (k, e', c', none, kept) large = absurd (none (puts_source (puts_at k e')))
    says_put o o' fits (Err NoLook) (k, e', c', fine, none, kept) large = absurd (none (puts_look c' (puts_at k e')))
    says_put o o' fits (Err Full) (k, w, e', c', p, longer, kept) large = let same = ap length (put_of k w e' p) in absurd (omega arith)
    says_put o o' fits (Err Small) kept large = absurd (large refl)

    pub put_done : {o o' : List ℕ} {w : ℕ} {r : Made} → PutPost s a b o o' w r → length x ≤ length o → room s (length a + length b) ≤ w → r ≡ Ok (length x)
    put_done {o} {o'} {r = r} post fits enough = says_put o o' fits r post.says (λ small. let few = post.small.1 small in omega arith)
