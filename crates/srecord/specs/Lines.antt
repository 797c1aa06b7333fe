-- A text as its lines: document 02, request One.
use Rattle.std.specs.Prelude.{ℕ, ◌-◌, Bool, cond, List, [], ◌∷◌, ◌++◌, length, take, ◌==◌, slice_index, Option, None, Some}

-- A text cut behind each line feed; `begun` are the bytes of the present line that were passed already. What no line feed ends is a line
-- too.
unfoldable pub cut : List ℕ → List ℕ → List (List ℕ)
cut begun [] = cond (length begun == 0) [] (begun ∷ [])
cut begun (byte ∷ rest) = cond (byte == 10) ((begun ++ (byte ∷ [])) ∷ cut [] rest) (cut (begun ++ (byte ∷ [])) rest)

abbrev pub lines : List ℕ → List (List ℕ)
lines text = cut [] text

abbrev pub ends_in : ℕ → List ℕ → Bool
ends_in byte line = slice_index line (length line - 1) == byte

abbrev pub without_last : List ℕ → List ℕ
without_last line = take (length line - 1) line

abbrev pub without_return : List ℕ → List ℕ
without_return line = cond (ends_in 13 line) (without_last line) line

-- "ends in a line feed, a carriage return allowed before it": what stands before a line's end, where it has one.
unfoldable pub content : List ℕ → Option (List ℕ)
content line = cond (ends_in 10 line) (Some (without_return (without_last line))) None
