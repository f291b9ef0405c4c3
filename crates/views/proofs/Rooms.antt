-- The work words of `put`: enough for two cut texts.
use Rattle.std.proofs.Common.{◌≡◌, ℕ, ◌+◌, ◌*◌, ◌/◌, ◌≤◌, min, subst, mul_comm, add-mul, one-mul, mul-one, mul-add, arith}
use Rattle.views.specs.Room.{room_for}

cells : (m a b : ℕ) → (1 + m) * (1 + (a + b)) ≡ 1 + m + (a + b) + (a * m + b * m)
cells m a b =
    omega (arith, add-mul 1 m (1 + (a + b)), one-mul (1 + (a + b)), mul-add m 1 (a + b), mul-one m, mul-add m a b, mul_comm m a, mul_comm m b)

module _ {m w : ℕ} (a b : ℕ) (short : m ≤ 1024) (enough : room_for m (a + b) ≤ w) where
  -- All bytes of the view count.
  counts : 4096 + m * m + (64 + ((1 + m) * (1 + (a + b))) / 8) ≤ w
  counts = let all : min 1025 m ≡ m = omega arith in subst (λ k. 4096 + k * k + (64 + ((1 + k) * (1 + (a + b))) / 8) ≤ w) all enough
