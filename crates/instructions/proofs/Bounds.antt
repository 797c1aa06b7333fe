-- What an operation gives to a register is below 2^32, where its operands are: a sum because it is taken modulo 2^32, a part of a number
-- because it is not above the whole, a product because of its operands' widths.
-- Assumes nothing.
use mathlib.Core.Bool.{Bool, true, false, cond}
use Prim.Native.Nat.{ℕ, ◌-◌, ◌/◌, ◌%◌, ◌^◌, ◌<◌}
use native.Mathlib.Nat.{div-le_self, lt_of_le_of_lt, mod-lt}
use native.Mathlib.Omega.{arith}
use lib.Bits.{bit_and, and_le_l}
use lib.Dec.{eqb}
use lib.IntN.{ℤ, pos, negsuc, neg_ℤ, ◌+ℤ◌}
use lib.Pow.{pow_pos}
use Rattle.numbers.specs.Numbers.{low32, low_bits, signed, signed_long}
use Rattle.arithmetic.specs.Logic.{complement}
use Rattle.arithmetic.specs.Transfers.{swap_b, xtrct}
use Rattle.shifts.specs.Shifts.{rotl, rotr}
use Rattle.multiply.specs.Multiply.{split, joined, held, product_long, product_word, dmuls_l, dmulu_l, mulu_w, mac_l, mac_l_held, mac_w, mac_w_held, summed}
use Rattle.multiply.specs.declared.Mac.{Mac}
use Rattle.std.proofs.lemmas.Nat.{mul-lt}
use Rattle.divide.specs.Divide.{div1}

pub low32_below : (x : ℕ) → low32 x < 2 ^ 32
low32_below x = omega arith

pub low_bits_below : (k : ℕ) (z : ℤ) → low_bits k z < 2 ^ k
low_bits_below k (pos n) = mod-lt n (pow_pos k)
low_bits_below k (negsuc n) = omega (arith, pow_pos k)

pub part_below : (d : ℕ) {n b : ℕ} → n < b → n / d < b
part_below d {n} below = lt_of_le_of_lt (div-le_self n d) below

pub and_below : (m : ℕ) {n b : ℕ} → n < b → bit_and n m < b
and_below m {n} below = lt_of_le_of_lt (and_le_l n m) below

pub complement_below : (m : ℕ) → complement m < 2 ^ 32
complement_below m = omega arith

pub swap_b_below : {m : ℕ} → m < 2 ^ 32 → swap_b m < 2 ^ 32
swap_b_below below = omega arith

-- XTRCT, and SWAP.W of one register.
pub xtrct_below : (m : ℕ) {n : ℕ} → n < 2 ^ 32 → xtrct m n < 2 ^ 32
xtrct_below m below = omega arith

pub rotl_below : {n : ℕ} → n < 2 ^ 32 → (rotl n).value < 2 ^ 32
rotl_below below = omega arith

pub rotr_below : {n : ℕ} → n < 2 ^ 32 → (rotr n).value < 2 ^ 32
rotr_below below = omega arith

pub mulu_w_below : (m n : ℕ) → mulu_w m n < 2 ^ 32
mulu_w_below m n = mul-lt (n % 2 ^ 16) (m % 2 ^ 16) (2 ^ 16) (2 ^ 16) (mod-lt n (pow_pos 16)) (mod-lt m (pow_pos 16))

pub div1_below : (m n m_bit q t : ℕ) → (div1 m n m_bit q t).value < 2 ^ 32
div1_below m n m_bit q t = either (eqb q m_bit) _ _
  where
    either : (subtract : Bool) (x y : ℕ) → cond subtract (low32 x) (low32 y) < 2 ^ 32
    either true x y = low32_below x
    either false x y = low32_below y

-- MACH and MACL.
pub record MacBelow (a : Mac) : Type 0 where
  pub mach : a.mach < 2 ^ 32
  pub macl : a.macl < 2 ^ 32

split_below : {x : ℕ} → x < 2 ^ 64 → MacBelow (split x)
split_below below = record { mach = omega arith; macl = omega arith }

either : (test : Bool) (a b : Mac) → MacBelow a → MacBelow b → MacBelow (cond test a b)
either true a b here there = here
either false a b here there = there

pub dmuls_l_below : (m n : ℕ) → MacBelow (dmuls_l m n)
dmuls_l_below m n = split_below (low_bits_below 64 (product_long m n))

pub dmulu_l_below : {m n : ℕ} → m < 2 ^ 32 → n < 2 ^ 32 → MacBelow (dmulu_l m n)
dmulu_l_below {m} {n} f g = split_below (mul-lt n m (2 ^ 32) (2 ^ 32) g f)

summed_below : (a : Mac) (product : ℤ) → MacBelow (summed a product)
summed_below a product = split_below (mod-lt _ (pow_pos 64))

pub mac_l_below : (a : Mac) (s m n : ℕ) → MacBelow (mac_l a s m n)
mac_l_below a s m n = go (product_long m n)
  where
    go : (product : ℤ) → MacBelow (cond (eqb s 1) (mac_l_held a product) (summed a product))
    go product =
        either (eqb s 1) (mac_l_held a product) (summed a product)
        (split_below
        (low_bits_below 64 (held (neg_ℤ (pos (2 ^ 47))) (pos (2 ^ 47 - 1)) (signed (2 ^ 47) (joined a % 2 ^ 48) +ℤ product))))
        (summed_below a product)

pub mac_w_below : {a : Mac} → MacBelow a → (s m n : ℕ) → MacBelow (mac_w a s m n)
mac_w_below {a} below s m n = go (product_word m n)
  where
    go : (product : ℤ) → MacBelow (cond (eqb s 1) (mac_w_held a product) (summed a product))
    go product =
        either (eqb s 1) (mac_w_held a product) (summed a product)
        (record {
          mach = below.mach;
          macl = low_bits_below 32 (held (neg_ℤ (pos (2 ^ 31))) (pos (2 ^ 31 - 1)) (signed_long a.macl +ℤ product));
        })
        (summed_below a product)
