-- The two last hexadecimal digits of a word, as one number, and each of them.
-- Assumes nothing.
use mathlib.Core.Path.{◌≡◌}
use Prim.Native.Nat.{ℕ, ◌/◌, ◌%◌}
use native.Mathlib.Omega.{arith}

pub two_digits : (w : ℕ) → (w % 256 / 16 ≡ w / 16 % 16) × (w % 256 % 16 ≡ w % 16)
two_digits w = (omega arith, omega arith)
