-- How an operation reads the bits of a register, "always longwords (32 bits)" (document 000, section 3.1): as a number below 2^32, as
-- section 6.1 lists the registers (`unsigned long`), or as a signed one, where an operation says `(long)`.
use Rattle.std.specs.Prelude.{Bool, true, false, ◌||◌, cond, ℕ, suc, ◌+◌, ◌-◌, ◌%◌, ◌^◌, ltb, ℤ, pos, negsuc, neg_ℤ}
use Rattle.std.proofs.Math.IntN.{sub_ℕ}
use Rattle.std.specs.Int.Signed.{lt_z}

-- A bit of SR, from what it tells.
abbrev pub truth : Bool → ℕ
truth true = 1
truth false = 0

-- The low 32 bits: "address sums are taken modulo 2^32", as are those of registers.
abbrev pub low32 : ℕ → ℕ
low32 x = x % 2 ^ 32

-- A number read as signed: from half the width's numbers up it stands for a negative one.
abbrev pub signed : ℕ → ℕ → ℤ
signed half x = cond (ltb x half) (pos x) (sub_ℕ x (half + half))

-- The low byte and the low word of a register, and the whole of it.
abbrev pub signed_byte : ℕ → ℤ
signed_byte x = signed (2 ^ 7) (x % 2 ^ 8)

abbrev pub signed_word : ℕ → ℤ
signed_word x = signed (2 ^ 15) (x % 2 ^ 16)

abbrev pub signed_long : ℕ → ℤ
signed_long x = signed (2 ^ 31) x

-- The low k bits of a signed number. `pos n` is n, and `negsuc n` is -(n + 1).
abbrev pub low_bits : ℕ → ℤ → ℕ
low_bits k (pos n) = n % 2 ^ k
low_bits k (negsuc n) = 2 ^ k - suc (n % 2 ^ k)

abbrev pub low_long : ℤ → ℕ
low_long z = low_bits 32 z

abbrev pub low_quad : ℤ → ℕ
low_quad z = low_bits 64 z

-- Not a signed number of 32 bits: below -2^31, or above 2^31 - 1.
abbrev pub overflows : ℤ → Bool
overflows z = lt_z z (neg_ℤ (pos (2 ^ 31))) || lt_z (pos (2 ^ 31 - 1)) z
