-- Comparisons: document 000, section 6.16. Each gives T; m and n are the values of Rm and Rn.
use Rattle.std.specs.Prelude.{ℕ, ◌/◌, ◌%◌, ◌^◌, Bool, ◌||◌, pos, ◌==◌, int_le, int_lt, nat_le, nat_lt}
use Rattle.numbers.specs.Numbers.{truth, signed_long}

-- CMP/EQ Rm,Rn; CMP/EQ #imm,R0 with the immediate extended
abbrev pub cmp_eq : ℕ → ℕ → ℕ
cmp_eq m n = truth (n == m)

-- CMP/GE: with signed data
abbrev pub cmp_ge : ℕ → ℕ → ℕ
cmp_ge m n = truth (int_le (signed_long m) (signed_long n))

-- CMP/GT: with signed data
abbrev pub cmp_gt : ℕ → ℕ → ℕ
cmp_gt m n = truth (int_lt (signed_long m) (signed_long n))

-- CMP/HI: with unsigned data
abbrev pub cmp_hi : ℕ → ℕ → ℕ
cmp_hi m n = truth (nat_lt m n)

-- CMP/HS: with unsigned data
abbrev pub cmp_hs : ℕ → ℕ → ℕ
cmp_hs m n = truth (nat_le m n)

-- CMP/PL: Rn > 0, signed
abbrev pub cmp_pl : ℕ → ℕ
cmp_pl n = truth (int_lt (pos 0) (signed_long n))

-- CMP/PZ: Rn >= 0, signed
abbrev pub cmp_pz : ℕ → ℕ
cmp_pz n = truth (int_le (pos 0) (signed_long n))

-- The two registers have the same byte from bit `lowest` up: bits 31 to 24 are the byte from bit 24 up.
abbrev pub same_byte : ℕ → ℕ → ℕ → Bool
same_byte lowest m n = n / 2 ^ lowest % 2 ^ 8 == m / 2 ^ lowest % 2 ^ 8

-- CMP/STR: some byte of Rn equals the byte of Rm in the same place
abbrev pub cmp_str : ℕ → ℕ → ℕ
cmp_str m n = truth (same_byte 24 m n || (same_byte 16 m n || (same_byte 8 m n || same_byte 0 m n)))
