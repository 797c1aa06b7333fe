-- Extensions and exchanges within registers: document 000, sections 6.23, 6.24, 6.37, 6.65 and 6.70.
use Rattle.std.specs.Prelude.{ℕ, ◌+◌, ◌*◌, ◌/◌, ◌%◌, ◌^◌}
use Rattle.numbers.specs.Numbers.{signed_byte, signed_word, low_long}

-- 6.23 EXTS.B: the low byte, sign-extended; also what extends an 8-bit immediate
abbrev pub exts_b : ℕ → ℕ
exts_b m = low_long (signed_byte m)

-- 6.23 EXTS.W: the low word, sign-extended
abbrev pub exts_w : ℕ → ℕ
exts_w m = low_long (signed_word m)

-- 6.24 EXTU.B
abbrev pub extu_b : ℕ → ℕ
extu_b m = m % 2 ^ 8

-- 6.24 EXTU.W
abbrev pub extu_w : ℕ → ℕ
extu_w m = m % 2 ^ 16

-- 6.37 MOVT
abbrev pub movt : ℕ → ℕ
movt t = t

-- 6.65 SWAP.B: the two low bytes exchanged
abbrev pub swap_b : ℕ → ℕ
swap_b m = m / 2 ^ 16 * 2 ^ 16 + m % 2 ^ 8 * 2 ^ 8 + m / 2 ^ 8 % 2 ^ 8

-- 6.65 SWAP.W: the two halves exchanged
abbrev pub swap_w : ℕ → ℕ
swap_w m = m % 2 ^ 16 * 2 ^ 16 + m / 2 ^ 16

-- 6.70 XTRCT: the middle 32 bits of Rm:Rn
abbrev pub xtrct : ℕ → ℕ → ℕ
xtrct m n = m % 2 ^ 16 * 2 ^ 16 + n / 2 ^ 16
