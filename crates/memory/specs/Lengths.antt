-- Which lengths of a memory are refused, and tests that are tried in order: document 01, "Memory" and "Refusals of a call".
use Rattle.std.specs.Prelude.{Bool, ◌||◌, if◌then◌else◌, not, List, [], ◌∷◌, ℕ, ◌%◌, ◌==◌, nat_lt, Result, Ok, Err, ⊤}
use Rattle.memory.specs.declared.lengths.BadLength.{BadLength}
use Rattle.memory.specs.declared.lengths.BadLength.TheVariants.{Ragged, Size}

-- The number of a refusal, or of a stop's reason, and whether it is given.
pub record Test : Type 0 where
  pub number : ℕ
  pub given : Bool

abbrev pub test : ℕ → Bool → Test
test number given = record { number = number; given = given }

-- "They are tried in that order.": the number of the first that is given, and 0 where none is.
abbrev pub first : List Test → ℕ
first [] = 0
first (t ∷ rest) = if t.given then t.number else first rest

-- 1: "memory length is not a multiple of 4"; 2: "else, length below 1,024 or above 16,777,216"
abbrev pub length_tests : ℕ → List Test
length_tests length = test 1 (not (length % 4 == 0)) ∷ test 2 (nat_lt length 1024 || nat_lt 16777216 length) ∷ []

abbrev pub refused_length : ℕ → ℕ
refused_length length = first (length_tests length)

-- The number of what a length is refused for; 0 for nothing.
abbrev pub bad_length_number : BadLength → ℕ
bad_length_number Ragged = 1
bad_length_number Size = 2

abbrev pub length_number : Result ⊤ BadLength → ℕ
length_number (Ok done) = 0
length_number (Err why) = bad_length_number why
