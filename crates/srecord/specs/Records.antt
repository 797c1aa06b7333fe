-- A record from a line: document 02, request One.
use Rattle.std.specs.Prelude.{ℕ, ◌+◌, ◌-◌, Bool, true, false, cond, ◌&&◌, List, [], ◌∷◌, length, take, drop, ◌==◌, nat_le, slice_index, Option, None, Some}
use Prim.Native.String.{String}
use Rattle.memory.specs.Access.{value_at}
use Rattle.text.specs.Reading.{value}
use Rattle.text.specs.Text.{ascii}
use Rattle.text.specs.declared.reading.Letters.TheVariants.{EitherCase}
use Rattle.srecord.specs.declared.openings.Kind.{Kind}
use Rattle.srecord.specs.declared.openings.Kind.TheVariants.{Header, Data, Count, Closing}
use Rattle.srecord.specs.declared.openings.Opening.{Opening}
use Rattle.srecord.specs.Lines.{content}

-- What a line is for.
abbrev pub is_data : Kind → Bool
is_data Header = false
is_data Data = true
is_data Count = false
is_data Closing = false

abbrev pub is_count : Kind → Bool
is_count Header = false
is_count Data = false
is_count Count = true
is_count Closing = false

abbrev pub is_closing : Kind → Bool
is_closing Header = false
is_closing Data = false
is_closing Count = false
is_closing Closing = true

-- One of the "eight byte strings" that open a line, what such a line is for, and how many bytes its address has.
abbrev opening : String → Kind → ℕ → Opening
opening start kind width = record { start = ascii start; kind = kind; width = width }

abbrev pub openings : List Opening
openings =
    opening "S0" Header 2
    ∷ opening "S1" Data 2
    ∷ opening "S2" Data 3
    ∷ opening "S3" Data 4
    ∷ opening "S5" Count 2
    ∷ opening "S7" Closing 4
    ∷ opening "S8" Closing 3
    ∷ opening "S9" Closing 2
    ∷ []

abbrev pub same : List ℕ → List ℕ → Bool
same [] [] = true
same [] (b ∷ y) = false
same (a ∷ x) [] = false
same (a ∷ x) (b ∷ y) = a == b && same x y

-- The opening whose two bytes these are.
abbrev pub among : List Opening → List ℕ → Option Opening
among [] start = None
among (o ∷ rest) start = cond (same start o.start) (Some o) (among rest start)

unfoldable pub opening_of : List ℕ → Option Opening
opening_of line = among openings (take 2 line)

-- A byte in front of others, where all of them were read.
abbrev pub before : Option ℕ → Option (List ℕ) → Option (List ℕ)
before (Some byte) (Some bytes) = Some (byte ∷ bytes)
before (Some byte) None = None
before None bytes = None

-- The bytes that pairs of hexadecimal digits make, "read in either case"; none where the text is anything else.
unfoldable pub bytes_of : List ℕ → Option (List ℕ)
bytes_of [] = Some []
bytes_of (a ∷ []) = None
bytes_of (a ∷ b ∷ rest) = before (value EitherCase (a ∷ b ∷ [])) (bytes_of rest)

-- A line's opening, and the bytes behind it: count, address, data and check byte.
pub record Record : Type 0 where
  pub opening : Opening
  pub bytes : List ℕ

-- Whether a line of this kind may have this count, where `least` is that of a line without data: "S5, S7, S8 and S9 carry no data".
abbrev pub may : Kind → ℕ → ℕ → Bool
may Header least count = nat_le least count
may Data least count = nat_le least count
may Count least count = count == least
may Closing least count = count == least

-- The byte count is that of the bytes behind it: address, data and check byte.
abbrev pub fits : Opening → List ℕ → Bool
fits o bytes = length bytes == slice_index bytes 0 + 1 && may o.kind (o.width + 1) (slice_index bytes 0)

abbrev pub and_then : {A B : Type 0} → Option A → (A → Option B) → Option B
and_then None f = None
and_then (Some x) f = f x

-- The record that a line is; none where a letter, the type, the length or the line's end is bad.
unfoldable pub record_of : List ℕ → Option Record
record_of line =
    and_then (content line) (λ l.
    and_then (opening_of l) (λ o.
    and_then (bytes_of (drop 2 l)) (λ bytes. cond (fits o bytes) (Some (record { opening = o; bytes = bytes })) None)))

-- "address of 2, 3 or 4 bytes"
abbrev pub address : Record → ℕ
address r = value_at r.opening.width r.bytes 1

-- The bytes between address and check byte. `least` bytes are count and address, and as many are address and check byte.
abbrev pub carried : Record → List ℕ
carried r =
    let least = r.opening.width + 1 in
    take (slice_index r.bytes 0 - least) (drop least r.bytes)

abbrev pub data_for : Kind → List ℕ → List ℕ
data_for kind bytes = cond (is_data kind) bytes []

-- The data that a line writes: S1's, S2's and S3's; "S0's is skipped".
abbrev pub data_of : Record → List ℕ
data_of r = data_for r.opening.kind (carried r)
