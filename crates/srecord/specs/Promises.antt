-- What the inner functions promise. `Loads` and `Exports` do not use it: none of it need be believed.
use Rattle.std.specs.Prelude.{◌≡◌, ℕ, ◌+◌, ◌/◌, ◌%◌, ◌^◌, ◌<◌, ◌≤◌, Bool, true, false, cond, not, ◌&&◌, ◌||◌, List, [], ◌∷◌, length, drop, ◌==◌, ◌≢◌, nat_le, nat_lt, slice_index, slice_index_or, Option, None, Some, Result, Ok, Err, IfSome, unwrap_or}
use Rattle.std.proofs.lemmas.List.Edits.{sets}
use Rattle.memory.specs.Access.{value_at}
use Rattle.memory.specs.Lengths.{Test, first, test}
use Rattle.text.specs.Reading.{value}
use Rattle.text.specs.declared.reading.Letters.TheVariants.{EitherCase}
use Rattle.srecord.specs.declared.Refusal.{Refusal}
use Rattle.srecord.specs.declared.openings.Kind.{Kind}
use Rattle.srecord.specs.declared.openings.Opening.{Opening}
use Rattle.srecord.specs.declared.records.Summary.{Summary}
use Rattle.srecord.specs.declared.sweep.SoFar.{SoFar}
use Rattle.srecord.specs.declared.sweep.Swept.{Swept}
use Rattle.srecord.specs.Lines.{lines}
use Rattle.srecord.specs.Records.{Record, address, and_then, bytes_of, data_of, fits, is_closing, is_count, is_data, opening_of, record_of}
use Rattle.srecord.specs.Load.{refusal_number, sum, told, writes}

-- The byte that a pair of digits makes.
abbrev pub ByteOf : List ℕ → ℕ → Type 0
ByteOf pair byte = (n : ℕ) → value EitherCase pair ≡ Some n → byte ≡ n

-- Pairs of digits make bytes, those from number `at` on.
abbrev pub Make : List (List ℕ) → List ℕ → ℕ → Type 0
Make pairs bytes at = (i : ℕ) → i < length pairs → value EitherCase (slice_index_or pairs i []) ≡ Some (slice_index bytes (at + i))

-- The number that pairs of digits make.
abbrev pub NumberOf : List (List ℕ) → ℕ → Type 0
NumberOf pairs n = (bytes : List ℕ) (at : ℕ) → Make pairs bytes at → n ≡ value_at (length pairs) bytes at

-- How many of n bytes a line of this kind writes.
abbrev pub length_for : Kind → ℕ → ℕ
length_for kind n = cond (is_data kind) n 0

-- A record, as the code has it.
abbrev pub summary : Record → Summary
summary r =
    record {
      opening = r.opening;
      address = address r;
      length = length (data_of r);
      checks = (sum r.bytes % 256 == 0xff);
    }

-- What `record_of` does in turn: with a line's bytes, behind its opening, before its end.
abbrev pub with_bytes : Opening → Option (List ℕ) → Option Record
with_bytes o x = and_then x (λ bytes. cond (fits o bytes) (Some (record { opening = o; bytes = bytes })) None)

abbrev pub opened : Option Opening → List ℕ → Option Record
opened x line = and_then x (λ o. with_bytes o (bytes_of (drop 2 line)))

abbrev pub ended : Option (List ℕ) → Option Record
ended x = and_then x (λ line. opened (opening_of line) line)

-- A record's refusal, address written twice left aside, behind `count` data lines, `closed` or not.
unfoldable pub single_tests : ℕ → Bool → ℕ → Summary → List Test
single_tests size closed count r =
    test 10 closed
    ∷ test 11 (not r.checks)
    ∷ test 12 (not (r.length == 0) && nat_lt size (r.address + r.length))
    ∷ test 14 (is_count r.opening.kind && not (r.address == count))
    ∷ []

-- What is known behind one record more: data lines, whether there was a closing line, the end of the last data, and whether each began at or
-- behind the end of the one before it.
unfoldable pub noted : SoFar → Summary → SoFar
noted s r =
    record {
      count = cond (is_data r.opening.kind) (s.count + 1) s.count;
      closed = is_closing r.opening.kind || s.closed;
      top = cond (r.length == 0) s.top (r.address + r.length);
      ordered = s.ordered && (r.length == 0 || nat_le s.top r.address);
    }

-- What one sweep over the lines finds: the first line that is bad for another reason than an address written twice.
pub record Finding : Type 0 where
  pub number : ℕ
  pub line : ℕ
  pub passed : ℕ
  pub ordered : Bool

abbrev pub finding : ℕ → ℕ → ℕ → Bool → Finding
finding number line passed ordered = record { number = number; line = line; passed = passed; ordered = ordered }

unfoldable pub swept : ℕ → ℕ → SoFar → List (Option Record) → Finding
swept size n s [] = finding (cond s.closed 0 15) 0 n s.ordered
swept size n s (None ∷ rest) = finding 10 (n + 1) n s.ordered
swept size n s (Some r ∷ rest) =
    let number = first (single_tests size s.closed s.count (summary r)) in
    cond (number == 0) (swept size (n + 1) (noted s (summary r)) rest) (finding number (n + 1) n s.ordered)

-- The number of a line's refusal, address written twice left aside; 0 where it passes. And what is answered of a line: the refusal, or what
-- is known behind it.
abbrev pub alone : ℕ → SoFar → Option Record → ℕ
alone size s None = 10
alone size s (Some r) = first (single_tests size s.closed s.count (summary r))

abbrev pub Behind : ℕ → SoFar → Option Record → Result SoFar Refusal → Type 0
Behind size s line (Err refusal) = (refusal_number refusal ≡ alone size s line) × (refusal_number refusal ≢ 0)
Behind size s line (Ok after) = (r : Record) × (line ≡ Some r) × (alone size s line ≡ 0) × (after ≡ noted s (summary r))

abbrev pub fresh : SoFar
fresh = record { count = 0; closed = false; top = 0; ordered = true }

abbrev pub finding_of : Swept → Finding
finding_of s = let v = told s.verdict in finding v.number v.line s.passed s.ordered

-- Of the first `lines` lines no two write one address from `low` to below `high`.
abbrev pub Once : List (Option Record) → ℕ → ℕ → ℕ → Type 0
Once records lines low high =
    (i j a : ℕ) → i < j → j < lines → low ≤ a → a < high → writes (slice_index_or records i None) a ≡ true →
    writes (slice_index_or records j None) a ≢ true

-- A line writes an address that an earlier one writes too.
pub record Again (records : List (Option Record)) (line : ℕ) : Type 0 where
  pub earlier : ℕ
  pub address : ℕ
  pub before : earlier < line
  pub first : writes (slice_index_or records earlier None) address ≡ true
  pub second : writes (slice_index_or records line None) address ≡ true

-- A line, of the first `limit`, that writes an address again, and before which none from `low` to below `high` is written twice; `limit`
-- where there is no such line.
pub record FirstAgain (records : List (Option Record)) (limit low high line : ℕ) : Type 0 where
  pub within : line ≤ limit
  pub once : Once records line low high
  pub again : line < limit → Again records line

-- The first line that writes an address again, where there is one.
pub record Finds (records : List (Option Record)) (limit low high : ℕ) (found : Option ℕ) : Type 0 where
  pub first : FirstAgain records limit low high (unwrap_or found limit)
  pub below : IfSome found (λ line. line < limit)

-- A mark: bit i % 8 of byte i / 8.
unfoldable pub marked : List ℕ → ℕ → Bool
marked marks i = slice_index marks (i / 8) / 2 ^ (i % 8) % 2 == 1

-- Marking the `wanted` ones of a window's 229,376 addresses: whether one of them was marked already; if not, they are marked now, and no other.
pub record Marks (before : List ℕ) (wanted : ℕ → Bool) (answer : Bool) (after : List ℕ) : Type 0 where
  pub taken : answer ≡ true → (i : ℕ) × (i < 229376) × (wanted i ≡ true) × (marked before i ≡ true)
  pub free : answer ≡ false → (i : ℕ) → i < 229376 → wanted i ≡ true → marked before i ≡ false
  pub now : answer ≡ false → (i : ℕ) → i < 229376 → marked after i ≡ (marked before i || wanted i)

-- Whether an address is from `low` to below `high`.
abbrev pub between : ℕ → ℕ → ℕ → Bool
between low high a = nat_le low a && nat_lt a high

-- Whether a line, as the code has it, writes an address,
abbrev pub writes_by : Option Summary → ℕ → Bool
writes_by None a = false
writes_by (Some r) a = between r.address (r.address + r.length) a

-- and whether it writes the one that is number i of the window at `low`.
abbrev pub writes_in : ℕ → Option Summary → ℕ → Bool
writes_in low line i = writes_by line (low + i)

-- The bytes that pairs of digits make, written from an address on.
abbrev pub PlacesData : List (List ℕ) → List ℕ → ℕ → List ℕ → Type 0
PlacesData pairs memory address after =
    (bytes : List ℕ) → length bytes ≡ length pairs → Make pairs bytes 0 → after ≡ sets memory address bytes

-- One line's data written.
abbrev pub placed_by : List ℕ → Option Record → List ℕ
placed_by memory None = memory
placed_by memory (Some r) = sets memory (address r) (data_of r)

-- What a line writes, where it is a record; of another nothing is promised.
abbrev pub Spans : List ℕ → Option Summary → Type 0
Spans line p = (r : Record) → record_of line ≡ Some r → (a : ℕ) → writes (Some r) a ≡ writes_by p a

-- The first `lines` lines are records.
abbrev pub AllRead : List (Option Record) → ℕ → Type 0
AllRead records lines = (i : ℕ) → i < lines → slice_index_or records i None ≢ None

-- What the functions that write a text promise: the text from a place on, every other byte as it was, and the place behind the text.
pub record Places (text before : List ℕ) (at : ℕ) (after : List ℕ) (end : ℕ) : Type 0 where
  pub places : after ≡ sets before at text
  pub ends : end ≡ at + length text
