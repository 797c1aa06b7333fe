-- Multiplications, and multiplications that add to MACH and MACL: document 000, sections 6.20, 6.21, 6.29, 6.31 and 6.38 to 6.40,
-- with document 01, "Instructions with corners", for the saturation. m and n are the two operands, a is MACH and MACL, s is S.
use Rattle.std.specs.Prelude.{ℕ, ◌+◌, ◌-◌, ◌*◌, ◌/◌, ◌%◌, ◌^◌, cond, ℤ, pos, ◌+ℤ◌, ◌*ℤ◌, neg_ℤ, ◌==◌, int_lt}
use Rattle.numbers.specs.Numbers.{low32, signed, signed_word, signed_long, low_long, low_quad}
use Rattle.multiply.specs.declared.Mac.{Mac}

-- 64 bits, as MACH and MACL.
abbrev pub split : ℕ → Mac
split x = record { mach = x / 2 ^ 32; macl = x % 2 ^ 32 }

-- MACH and MACL, as one number of 64 bits.
abbrev pub joined : Mac → ℕ
joined a = a.mach * 2 ^ 32 + a.macl

-- The signed product of two longs, and of the low words of two registers.
abbrev pub product_long : ℕ → ℕ → ℤ
product_long m n = signed_long n *ℤ signed_long m

abbrev pub product_word : ℕ → ℕ → ℤ
product_word m n = signed_word n *ℤ signed_word m

-- 6.20 DMULS.L
abbrev pub dmuls_l : ℕ → ℕ → Mac
dmuls_l m n = split (low_quad (product_long m n))

-- 6.21 DMULU.L
abbrev pub dmulu_l : ℕ → ℕ → Mac
dmulu_l m n = split (n * m)

-- 6.38 MUL.L: MACL
abbrev pub mul_l : ℕ → ℕ → ℕ
mul_l m n = low32 (n * m)

-- 6.39 MULS.W: MACL
abbrev pub muls_w : ℕ → ℕ → ℕ
muls_w m n = low_long (product_word m n)

-- 6.40 MULU.W: MACL
abbrev pub mulu_w : ℕ → ℕ → ℕ
mulu_w m n = n % 2 ^ 16 * (m % 2 ^ 16)

-- With S = 0: the product is added to the 64 bits modulo 2^64.
abbrev pub summed : Mac → ℤ → Mac
summed a product = split ((joined a + low_quad product) % 2 ^ 64)

-- A number held within two bounds.
abbrev pub held : ℤ → ℤ → ℤ → ℤ
held least most z = cond (int_lt z least) least (cond (int_lt most z) most z)

-- 6.29 MAC.L. With S = 1: bits 47 to 0 are read as signed, the sum is held within -2^47 to 2^47 - 1, and bits 63 to 48 take its sign.
abbrev pub mac_l_held : Mac → ℤ → Mac
mac_l_held a product =
    split
    (low_quad (held (neg_ℤ (pos (2 ^ 47))) (pos (2 ^ 47 - 1)) (signed (2 ^ 47) (joined a % 2 ^ 48) +ℤ product)))

abbrev pub mac_l : Mac → ℕ → ℕ → ℕ → Mac
mac_l a s m n = cond (s == 1) (mac_l_held a (product_long m n)) (summed a (product_long m n))

-- 6.31 MAC.W. With S = 1: the product is added to MACL as a signed number and held within -2^31 to 2^31 - 1; MACH stays.
abbrev pub mac_w_held : Mac → ℤ → Mac
mac_w_held a product =
    record {
      mach = a.mach;
      macl = low_long (held (neg_ℤ (pos (2 ^ 31))) (pos (2 ^ 31 - 1)) (signed_long a.macl +ℤ product));
    }

abbrev pub mac_w : Mac → ℕ → ℕ → ℕ → Mac
mac_w a s m n = cond (s == 1) (mac_w_held a (product_word m n)) (summed a (product_word m n))
