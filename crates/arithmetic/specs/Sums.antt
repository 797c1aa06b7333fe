-- Sums and differences of registers: document 000, sections 6.2 to 6.4, 6.62 to 6.64, 6.22, 6.41 and 6.42.
-- m and n are the values of Rm and Rn before the instruction, t is T.
use Rattle.std.specs.Prelude.{ℕ, ◌+◌, ◌-◌, ◌^◌, ◌+ℤ◌, ◌-ℤ◌, ◌==◌, nat_le, nat_lt}
use Rattle.numbers.specs.Numbers.{truth, low32, signed_long, overflows}
use Rattle.numbers.specs.declared.WithT.{WithT}

-- 6.2 ADD
abbrev pub add : ℕ → ℕ → ℕ
add m n = low32 (n + m)

-- 6.3 ADDC: T is 1 exactly if the true sum reaches 2^32.
abbrev pub addc : ℕ → ℕ → ℕ → WithT
addc m n t = record { value = low32 (n + m + t); t = truth (nat_le (2 ^ 32) (n + m + t)) }

-- 6.4 ADDV: T is 1 exactly if the true signed sum is no signed number of 32 bits.
abbrev pub addv : ℕ → ℕ → WithT
addv m n = record { value = add m n; t = truth (overflows (signed_long n +ℤ signed_long m)) }

-- 6.62 SUB: Rn - Rm. A natural number is never below 0, so 2^32 is added before Rm is taken away, which modulo 2^32 is nothing.
abbrev pub sub : ℕ → ℕ → ℕ
sub m n = low32 (n + 2 ^ 32 - m)

-- 6.63 SUBC: Rn - Rm - T; T is 1 exactly if the true difference is below zero. For any m and t of 32 bits m + t is below 2^33, which
-- modulo 2^32 is nothing too.
abbrev pub subc : ℕ → ℕ → ℕ → WithT
subc m n t = record { value = low32 (n + 2 ^ 33 - (m + t)); t = truth (nat_lt n (m + t)) }

-- 6.64 SUBV: T is 1 exactly if the true signed difference is no signed number of 32 bits.
abbrev pub subv : ℕ → ℕ → WithT
subv m n = record { value = sub m n; t = truth (overflows (signed_long n -ℤ signed_long m)) }

-- 6.22 DT: Rn - 1; T is 1 exactly if that is 0.
abbrev pub dt : ℕ → WithT
dt n = record { value = sub 1 n; t = truth (sub 1 n == 0) }

-- 6.41 NEG: 0 - Rm
abbrev pub neg : ℕ → ℕ
neg m = sub m 0

-- 6.42 NEGC: 0 - Rm - T, with T as in SUBC.
abbrev pub negc : ℕ → ℕ → WithT
negc m t = subc m 0 t
