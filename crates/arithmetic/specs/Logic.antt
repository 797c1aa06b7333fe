-- Logic operations, bit by bit: document 000, sections 6.44 and 6.68. Those of 6.5 (AND), 6.45 (OR) and 6.69 (XOR) are the library's
-- `bit_and`, `bit_or` and `bit_xor`.
use Rattle.std.specs.Prelude.{ℕ, ◌-◌, ◌^◌, ◌==◌, bit_and}
use Rattle.numbers.specs.Numbers.{truth}

-- 6.44 NOT: each of the 32 bits turned over.
abbrev pub complement : ℕ → ℕ
complement m = 2 ^ 32 - 1 - m

-- 6.68 TST: T is 1 exactly if Rn AND Rm is 0.
abbrev pub tst : ℕ → ℕ → ℕ
tst m n = truth (bit_and n m == 0)
