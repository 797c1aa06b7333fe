-- Shifts and rotates: document 000, sections 6.46 to 6.49 and 6.53 to 6.58. n is the value of Rn before the instruction, t is T.
-- The bit that leaves at the top is n / 2^31, the one that leaves at the bottom n % 2.
use Rattle.std.specs.Prelude.{ℕ, ◌+◌, ◌*◌, ◌/◌, ◌%◌, ◌^◌}
use Rattle.std.specs.Int.Signed.{shr_z}
use Rattle.numbers.specs.Numbers.{low32, signed_long, low_long}
use Rattle.numbers.specs.declared.WithT.{WithT}

-- 6.46 ROTCL: T enters at the bottom, the top bit leaves into T.
abbrev pub rotcl : ℕ → ℕ → WithT
rotcl n t = record { value = low32 (n * 2 + t); t = n / 2 ^ 31 }

-- 6.47 ROTCR: T enters at the top, the bottom bit leaves into T.
abbrev pub rotcr : ℕ → ℕ → WithT
rotcr n t = record { value = low32 (n / 2 + t * 2 ^ 31); t = n % 2 }

-- 6.48 ROTL: the top bit enters at the bottom, and goes into T.
abbrev pub rotl : ℕ → WithT
rotl n = record { value = low32 (n * 2) + n / 2 ^ 31; t = n / 2 ^ 31 }

-- 6.49 ROTR: the bottom bit enters at the top, and goes into T.
abbrev pub rotr : ℕ → WithT
rotr n = record { value = n / 2 + n % 2 * 2 ^ 31; t = n % 2 }

-- 6.53 SHAL and 6.55 SHLL: a zero enters at the bottom, the top bit leaves into T.
abbrev pub shll : ℕ → WithT
shll n = record { value = low32 (n * 2); t = n / 2 ^ 31 }

-- 6.54 SHAR: the signed number divided by 2 and rounded down, so that the top bit stays; the bottom bit leaves into T. `shr_z` takes the
-- divisor, not how many places to shift.
abbrev pub shar : ℕ → WithT
shar n = record { value = low_long (shr_z (signed_long n) 2); t = n % 2 }

-- 6.57 SHLR: a zero enters at the top, the bottom bit leaves into T.
abbrev pub shlr : ℕ → WithT
shlr n = record { value = n / 2; t = n % 2 }

-- 6.56 SHLL2, SHLL8, SHLL16
abbrev pub shll2 : ℕ → ℕ
shll2 n = low32 (n * 2 ^ 2)

abbrev pub shll8 : ℕ → ℕ
shll8 n = low32 (n * 2 ^ 8)

abbrev pub shll16 : ℕ → ℕ
shll16 n = low32 (n * 2 ^ 16)

-- 6.58 SHLR2, SHLR8, SHLR16
abbrev pub shlr2 : ℕ → ℕ
shlr2 n = n / 2 ^ 2

abbrev pub shlr8 : ℕ → ℕ
shlr8 n = n / 2 ^ 8

abbrev pub shlr16 : ℕ → ℕ
shlr16 n = n / 2 ^ 16
