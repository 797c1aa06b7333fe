-- A code pattern of document 000, as "0011nnnnmmmm1100": what it fixes of a word, and what it reads from one.
-- Section 5.1: mmmm is the source register, nnnn the destination register, iiii an immediate, dddd a displacement.
use Rattle.std.specs.Prelude.{Bool, true, ◌&&◌, ◌||◌, if◌then◌else◌, List, [], ◌∷◌, ℕ, ◌+◌, ◌*◌, ◌/◌, ◌%◌, eqb}
use Prim.Native.String.{String, slice}
use lib.Text.{eqt}

-- A word's four nibbles: bits 15 to 12, 11 to 8, 7 to 4 and 3 to 0.
pub record Nibbles : Type 0 where
  pub top : ℕ
  pub second : ℕ
  pub third : ℕ
  pub last : ℕ

abbrev pub nibbles : ℕ → Nibbles
nibbles w = record { top = w / 4096; second = w / 256 % 16; third = w / 16 % 16; last = w % 16 }

-- Four characters of a pattern: a number in binary, or part of a field, named by its letters.
pub data Group : Type 0 where
  fixed : ℕ → Group
  part : String → Group

abbrev bit : String → ℕ → ℕ
bit s k = if eqt (slice s k (k + 1)) "1" then 1 else 0

abbrev group : String → Group
group s =
    if eqt s "nnnn" || eqt s "mmmm" || eqt s "iiii" || eqt s "dddd" then part s
    else fixed (bit s 0 * 8 + bit s 1 * 4 + bit s 2 * 2 + bit s 3)

-- The sixteen characters, as four groups.
pub record Code : Type 0 where
  pub top : Group
  pub second : Group
  pub third : Group
  pub last : Group

abbrev pub code : String → Code
code s =
    record {
      top = group (slice s 0 4);
      second = group (slice s 4 8);
      third = group (slice s 8 12);
      last = group (slice s 12 16);
    }

abbrev pub agrees : Group → ℕ → Bool
agrees (fixed k) x = eqb x k
agrees (part s) x = true

-- A word matches a code where each fixed group is the word's own nibble (in the order of Table A.51: the middle comes last).
abbrev pub matches : Code → Nibbles → Bool
matches c w =
    agrees c.top w.top && (agrees c.last w.last && (agrees c.third w.third && agrees c.second w.second))

-- A field is the number that the word's nibbles under its letters make.
abbrev under : String → Group → ℕ → List ℕ → List ℕ
under l (fixed k) x rest = rest
under l (part s) x rest = if eqt s l then x ∷ rest else rest

abbrev onward : ℕ → List ℕ → ℕ
onward a [] = a
onward a (x ∷ rest) = onward (a * 16 + x) rest

abbrev number : List ℕ → ℕ
number [] = 0
number (x ∷ rest) = onward x rest

abbrev field : String → Code → Nibbles → ℕ
field l c w =
    number
    (under l c.top w.top (under l c.second w.second (under l c.third w.third (under l c.last w.last []))))

pub record Fields : Type 0 where
  pub n : ℕ
  pub m : ℕ
  pub i : ℕ
  pub d : ℕ

abbrev pub fields : Code → Nibbles → Fields
fields c w =
    record {
      n = field "nnnn" c w;
      m = field "mmmm" c w;
      i = field "iiii" c w;
      d = field "dddd" c w;
    }
