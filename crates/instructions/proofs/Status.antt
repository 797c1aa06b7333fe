-- SR within its mask H'3F3: a masked number, and SR with a new T, or M, Q and T, have no bit outside it.
-- Assumes nothing.
use mathlib.Core.Path.{◌≡◌, sym, ◌∙◌, ap}
use Prim.Native.Nat.{ℕ, ◌+◌, ◌*◌, ◌/◌, ◌%◌, ◌^◌, ◌<◌}
use native.Mathlib.Omega.{arith}
use lib.Bits.{bit_and, and_block, and_mask, and_le_r}
use Rattle.instructions.specs.State.{masked, sr_with_t, sr_with_mqt}

-- The mask keeps bits 9 to 4, and 1 and 0.
pub masked_parts : (x : ℕ) → masked x ≡ x / 16 % 64 * 16 + x % 4
masked_parts x =
    let split : x ≡ x / 16 * 2 ^ 4 + x % 16 = omega arith in
    ap (λ y. bit_and y 0x3f3) split
    ∙ and_block 4 (x / 16) 63 (x % 16) 3 (omega arith) (omega arith)
    ∙ rw (and_mask (x / 16) 6, and_mask (x % 16) 2) (omega arith)

parts_masked : (upper lower : ℕ) → upper < 64 → lower < 4 → masked (upper * 16 + lower) ≡ upper * 16 + lower
parts_masked upper lower high low =
    let above : (upper * 16 + lower) / 16 ≡ upper = omega arith in
    masked_parts (upper * 16 + lower) ∙ rw above (omega arith)

pub masked_below : (x : ℕ) → masked x < 2 ^ 32
masked_below x = omega (arith, and_le_r x 0x3f3)

pub masked_again : (x : ℕ) → masked (masked x) ≡ masked x
masked_again x = rw (masked_parts x) (parts_masked (x / 16 % 64) (x % 4) (omega arith) (omega arith))

module _ (sr : ℕ) (passes : masked sr ≡ sr) where
  parts : sr ≡ sr / 16 % 64 * 16 + sr % 4
  parts = sym passes ∙ masked_parts sr

  pub t_masked : (t : ℕ) → masked (sr_with_t t sr) ≡ sr_with_t t sr
  t_masked t = go (sr / 16 % 64) (sr % 4) (omega arith) (omega arith) parts
    where
      go : (upper lower : ℕ) → upper < 64 → lower < 4 → sr ≡ upper * 16 + lower → masked (sr_with_t t sr) ≡ sr_with_t t sr
      go upper lower high low same =
          let new : sr_with_t t sr ≡ upper * 16 + (lower / 2 * 2 + t % 2) = omega arith in
          rw new (parts_masked upper (lower / 2 * 2 + t % 2) high (omega arith))

  pub mqt_masked : (m q t : ℕ) → masked (sr_with_mqt m q t sr) ≡ sr_with_mqt m q t sr
  mqt_masked m q t = go (sr / 16 % 64) (sr % 4) (omega arith) (omega arith) parts
    where
      go :
          (upper lower : ℕ) → upper < 64 → lower < 4 → sr ≡ upper * 16 + lower →
          masked (sr_with_mqt m q t sr) ≡ sr_with_mqt m q t sr
      go upper lower high low same =
          let halved : sr / 2 ≡ upper * 8 + lower / 2 = omega arith in
          let kept : sr / 2 % 2 ^ 7 ≡ upper % 16 * 8 + lower / 2 = rw halved (omega arith) in
          let new : sr_with_mqt m q t sr ≡ (m % 2 * 32 + q % 2 * 16 + upper % 16) * 16 + (lower / 2 * 2 + t % 2) = omega arith in
          rw new
          (parts_masked (m % 2 * 32 + q % 2 * 16 + upper % 16) (lower / 2 * 2 + t % 2) (omega arith) (omega arith))
