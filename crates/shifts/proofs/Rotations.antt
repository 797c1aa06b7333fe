-- The bit that a rotate brings to the other end stands alone there.
-- Assumes nothing.
use mathlib.Core.Path.{◌≡◌}
use Prim.Native.Nat.{ℕ, ◌+◌, ◌*◌, ◌/◌, ◌%◌, ◌<◌, ◌^◌}
use native.Mathlib.Omega.{arith}
use Rattle.std.specs.Int.{rotate_left, rotate_right}
use Rattle.std.proofs.lemmas.Nat.{or_comm, or_shifted}
use mir.Syntax.{w32}

pub up : (n : ℕ) → n < 2 ^ 32 → rotate_left w32 n 1 ≡ n * 2 % 2 ^ 32 + n / 2 ^ 31
up n h =
    let once : n * 2 % 2 ^ 32 ≡ n % 2 ^ 31 * 2 ^ 1 = omega arith in
    rw once (or_shifted (n % 2 ^ 31) 1 (n / 2 ^ 31) (omega arith))

pub down : (n : ℕ) → n < 2 ^ 32 → rotate_right w32 n 1 ≡ n / 2 + n % 2 * 2 ^ 31
down n h =
    let last : n * 2 ^ 31 % 2 ^ 32 ≡ n % 2 * 2 ^ 31 = omega arith in
    rw (or_comm (n / 2) (n * 2 ^ 31 % 2 ^ 32), last, or_shifted (n % 2) 31 (n / 2) (omega arith)) (omega arith)
