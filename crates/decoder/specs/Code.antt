-- The meaning of a word: what the row that matches it says. A word that no row matches is undefined.
use Rattle.std.specs.Prelude.{Bool, true, ◌&&◌, not, if◌then◌else◌, List, [], ◌∷◌, ℕ}
use Rattle.decoder.specs.Pattern.{Nibbles, nibbles, code, fields, matches}
use Rattle.decoder.specs.Table.{Row, table}
use Rattle.decoder.specs.declared.meaning.Meaning.{Meaning}
use Rattle.decoder.specs.declared.meaning.Meaning.TheVariants.{Undefined}

abbrev pub row_matches : Nibbles → Row → Bool
row_matches w r = matches (code r.pattern) w

abbrev pub row_means : Nibbles → Row → Meaning
row_means w r = r.means (fields (code r.pattern) w)

unfoldable pub among : List Row → Nibbles → Meaning
among [] w = Undefined
among (r ∷ rest) w = if row_matches w r then row_means w r else among rest w

unfoldable pub meaning : ℕ → Meaning
meaning w = among table (nibbles w)

-- The same, told of the four nibbles: what each part of the code map promises.
abbrev pub of_nibbles : (top second third last : ℕ) → Meaning
of_nibbles t s h l = among table (record { top = t; second = s; third = h; last = l })

-- The code table lacks the word: none of its rows matches it.
abbrev pub none_matches : List Row → Nibbles → Bool
none_matches [] w = true
none_matches (r ∷ rest) w = not (row_matches w r) && none_matches rest w

abbrev pub unmatched : ℕ → Bool
unmatched w = none_matches table (nibbles w)
