-- Loading a text into a memory: document 02, request One. The refusals in its order, and the memory after.
use Rattle.std.specs.Prelude.{◌≡◌, ℕ, ◌+◌, ◌%◌, min, max, Bool, true, false, cond, not, ◌&&◌, ◌||◌, List, [], ◌∷◌, map, length, ◌==◌, nat_le, nat_lt, Option, None, Some, Result, Ok, Err, ⊤}
use Rattle.std.proofs.lemmas.List.Edits.{sets}
use Rattle.memory.specs.Lengths.{Test, first, refused_length, test}
use Rattle.srecord.specs.declared.Refusal.{Refusal}
use Rattle.srecord.specs.declared.Refusal.TheVariants.{Ragged, Size, Line, Check, Outside, Twice, Number, Unclosed, Room}
use Rattle.srecord.specs.declared.Refused.{Refused}
use Rattle.srecord.specs.declared.openings.Kind.{Kind}
use Rattle.srecord.specs.Lines.{lines}
use Rattle.srecord.specs.Records.{Record, address, data_of, is_closing, is_count, is_data, record_of}

-- The paper's number of a refusal,
abbrev pub refusal_number : Refusal → ℕ
refusal_number Ragged = 1
refusal_number Size = 2
refusal_number Line = 10
refusal_number Check = 11
refusal_number Outside = 12
refusal_number Twice = 13
refusal_number Number = 14
refusal_number Unclosed = 15
refusal_number Room = 16

-- and of an answer: 0 where it is none.
abbrev pub number_of : {A : Type 0} → Result A Refusal → ℕ
number_of (Ok x) = 0
number_of (Err refusal) = refusal_number refusal

abbrev pub sum : List ℕ → ℕ
sum [] = 0
sum (byte ∷ bytes) = byte + sum bytes

abbrev pub kind_of : Record → Kind
kind_of r = r.opening.kind

-- The address behind the last byte that a line writes.
abbrev pub end_of : Record → ℕ
end_of r = address r + length (data_of r)

-- Whether a line writes an address: in this word the theorems speak of bytes that lines name.
abbrev pub writes : Option Record → ℕ → Bool
writes None a = false
writes (Some r) a = nat_le (address r) a && nat_lt a (end_of r)

-- Whether the records are closed: one of them is an S7, S8 or S9 line.
unfoldable pub closed : List Record → Bool
closed [] = false
closed (r ∷ records) = is_closing (kind_of r) || closed records

-- The number of data lines among them.
unfoldable pub data_lines : List Record → ℕ
data_lines [] = 0
data_lines (r ∷ records) = cond (is_data (kind_of r)) 1 0 + data_lines records

-- Whether two lines write one address.
abbrev pub share : Record → Record → Bool
share r s = nat_lt (max (address r) (address s)) (min (end_of r) (end_of s))

unfoldable pub written_twice : Record → List Record → Bool
written_twice r [] = false
written_twice r (s ∷ records) = share r s || written_twice r records

-- A record's refusals in order, where `earlier` are the records of the lines before it and `size` is the memory's length.
-- 10: "a line after the closing one"; 11: the check byte "brings the low byte of the sum .. to H'FF"; 12: "a data byte outside memory";
-- 13: "address written twice"; 14: "an S5 number must equal the data lines before it"
unfoldable pub record_tests : ℕ → List Record → Record → List Test
record_tests size earlier r =
    test 10 (closed earlier)
    ∷ test 11 (not (sum r.bytes % 256 == 0xff))
    ∷ test 12 (not (length (data_of r) == 0) && nat_lt size (end_of r))
    ∷ test 13 (written_twice r earlier)
    ∷ test 14 (is_count (kind_of r) && not (address r == data_lines earlier))
    ∷ []

-- A line's refusals. 10: "bad letter, type, length or line end"
abbrev pub line_tests : ℕ → List Record → Option Record → List Test
line_tests size earlier None = test 10 true ∷ []
line_tests size earlier (Some r) = record_tests size earlier r

abbrev pub and_before : Option Record → List Record → List Record
and_before None earlier = earlier
and_before (Some r) earlier = r ∷ earlier

-- The refusal's number, 0 where the text is accepted, and the line that it is about, 0 where it is about none.
pub record Verdict : Type 0 where
  pub number : ℕ
  pub line : ℕ

abbrev pub verdict : ℕ → ℕ → Verdict
verdict number line = record { number = number; line = line }

abbrev pub told : Result ⊤ Refused → Verdict
told (Ok done) = verdict 0 0
told (Err r) = verdict (refusal_number r.refusal) r.line

-- Line by line from line n on: the first bad line decides. 15: "at the end .. no closing line"
unfoldable pub judged : ℕ → ℕ → List Record → List (Option Record) → Verdict
judged size n earlier [] = cond (closed earlier) (verdict 0 0) (verdict 15 0)
judged size n earlier (line ∷ rest) =
    let number = first (line_tests size earlier line) in
    cond (number == 0) (judged size (n + 1) (and_before line earlier) rest) (verdict number n)

abbrev pub records : List ℕ → List (Option Record)
records text = map record_of (lines text)

-- "1 and 2 first, then by line"
abbrev pub verdict_on : List ℕ → ℕ → Verdict
verdict_on text size =
    cond (refused_length size == 0) (judged size 1 [] (records text)) (verdict (refused_length size) 0)

-- The memory with the data of each line from its address on.
unfoldable pub placed : List ℕ → List (Option Record) → List ℕ
placed memory [] = memory
placed memory (None ∷ rest) = placed memory rest
placed memory (Some r ∷ rest) = placed (sets memory (address r) (data_of r)) rest

-- "Bytes that no line names keep their value, and a refused text changes no byte."
abbrev pub memory_after : List ℕ → List ℕ → List ℕ
memory_after text memory = cond ((verdict_on text (length memory)).number == 0) (placed memory (records text)) memory

-- What `load` promises: the paper's number, the line, and every byte of the memory.
pub record Loads (text memory : List ℕ) (answer : Result ⊤ Refused) (after : List ℕ) : Type 0 where
  pub answers : told answer ≡ verdict_on text (length memory)
  pub leaves : after ≡ memory_after text memory
