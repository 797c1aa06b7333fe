-- Texts as bytes, and numbers as text.
use Rattle.std.specs.Prelude.{cond, List, [], ◌∷◌, ◌++◌, ℕ, zero, suc, ◌+◌, ◌/◌, ◌%◌, ltb}
use Prim.Native.Char.{code}
use Prim.Native.String.{String, char_at, len}
use Rattle.text.specs.declared.digits.Case.{Case}
use Rattle.text.specs.declared.digits.Case.TheVariants.{Lower, Upper}

abbrev letters : String → ℕ → ℕ → List ℕ
letters s from zero = []
letters s from (suc k) = code (char_at s from) ∷ letters s (from + 1) k

-- The bytes of a text of ASCII characters.
abbrev pub ascii : String → List ℕ
ascii s = letters s 0 (len s)

-- "Lines end in a line feed."
abbrev pub line_feed : List ℕ
line_feed = 10 ∷ []

-- The digit's character: 0 to 9, then a to f or A to F.
abbrev pub figure : ℕ → ℕ
figure d = 48 + d

abbrev pub letter : Case → ℕ → ℕ
letter Lower d = 87 + d
letter Upper d = 55 + d

abbrev pub digit : Case → ℕ → ℕ
digit case d = cond (ltb d 10) (figure d) (letter case d)

-- The last k hexadecimal digits.
unfoldable pub hex_in : Case → ℕ → ℕ → List ℕ
hex_in case zero n = []
hex_in case (suc k) n = hex_in case k (n / 16) ++ (digit case (n % 16) ∷ [])

-- The same in lower case.
abbrev pub hex : ℕ → ℕ → List ℕ
hex k n = hex_in Lower k n

-- Decimal without leading zeros; of a number of more than k digits, the last k.
unfoldable pub decimal : ℕ → ℕ → List ℕ
decimal zero n = []
decimal (suc k) n = cond (ltb n 10) (figure n ∷ []) (decimal k (n / 10) ++ (figure (n % 10) ∷ []))
