-- A row that is copied to the front of lent bytes.
use Rattle.std.proofs.Common.{◌≡◌, ℕ, ◌-◌, List, ◌++◌, length, sym, ◌∙◌, subst, arith, take_at, drop_at}
use borrow.Rule.Slice.PartMut.{post_of, Post-is}
use Rattle.lens.specs.Views.{View}
use Rattle.rows.specs.Rows.{Encodes}
use Rattle.calls.specs.Parses.{RowOf}

-- x was copied to where the first n of the bytes o stood, and says a view.
pub row_stands : {o x : List ℕ} {n : ℕ} {v : View} → length x ≡ n → Encodes x v → RowOf o (x ++ post_of 0 (n - 0) o) n
row_stands {o} {x} {n} {v} long says = record {
  view = v;
  encodes = subst (λ s. Encodes s v) (sym (take_at x (post_of 0 (n - 0) o) n long)) says;
  rest = drop_at x (post_of 0 (n - 0) o) n long ∙ Post-is 0 n o (omega arith);
}
