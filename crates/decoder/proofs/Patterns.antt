-- Each pattern of the code table is well formed: it has sixteen characters in four whole groups, and the fields that its row's meaning
-- reads are those whose letters it has.
-- Assumes nothing.
use mathlib.Core.Path.{◌≡◌, refl}
use mathlib.Core.Bool.{Bool, true, false, ◌&&◌, ◌||◌, not, cond, beq}
use mathlib.Core.List.{[], ◌∷◌, map}
use Prim.Native.String.{String, len, slice}
use lib.Dec.{eqb}
use lib.Text.{eqt}
use Rattle.decoder.specs.Pattern.{Fields}
use Rattle.decoder.specs.Table.{Row, table}
use Rattle.decoder.specs.declared.meaning.Meaning.TheVariants.{BranchIf, TwoRegisters}
use Rattle.decoder.specs.declared.meaning.BranchIf.TheVariants.{Bf}
use Rattle.decoder.specs.declared.meaning.TwoRegisters.TheVariants.{And}
use Rattle.decoder.proofs.Rows.{every}
use Rattle.decoder.proofs.Widths.{within}

abbrev binary : String → Bool
binary c = eqt c "0" || eqt c "1"

-- A whole group: four binary digits, or four times the letter of a field.
abbrev whole : String → Bool
whole s =
    eqt s "nnnn" || eqt s "mmmm" || eqt s "iiii" || eqt s "dddd" ||
    (binary (slice s 0 1) && binary (slice s 1 2) && binary (slice s 2 3) && binary (slice s 3 4))

abbrev all_whole : String → Bool
all_whole s = whole (slice s 0 4) && whole (slice s 4 8) && whole (slice s 8 12) && whole (slice s 12 16)

abbrev has : String → String → Bool
has l s = eqt (slice s 0 4) l || eqt (slice s 4 8) l || eqt (slice s 8 12) l || eqt (slice s 12 16) l

-- The field of these letters is 4096, which is within the width of no part of a meaning, and the others are 0.
abbrev too_wide : String → Fields
too_wide l =
    record {
      n = cond (eqt l "nnnn") 4096 0;
      m = cond (eqt l "mmmm") 4096 0;
      i = cond (eqt l "iiii") 4096 0;
      d = cond (eqt l "dddd") 4096 0;
    }

-- So a meaning reads a field exactly when it is not within its widths there.
abbrev reads : String → Row → Bool
reads l r = not (within (r.means (too_wide l)))

abbrev well_formed : Row → Bool
well_formed r =
    eqb (len r.pattern) 16 && all_whole r.pattern && beq (reads "nnnn" r) (has "nnnn" r.pattern) &&
    beq (reads "mmmm" r) (has "mmmm" r.pattern) && beq (reads "iiii" r) (has "iiii" r.pattern) &&
    beq (reads "dddd" r) (has "dddd" r.pattern)

pub patterns_well_formed : every well_formed table ≡ true
unfolding table
patterns_well_formed = refl

-- What the test refuses: the codes of AND and BF as the scan has them (document 01: ten n's, six d's), a letter in place of a digit, and
-- a meaning that passes over a field.
pub faults_refused :
    map well_formed (
    record { pattern = "0010nnnnnnnnnn1001"; name = "AND Rm,Rn"; means = λ f. TwoRegisters And f.m f.n } ∷
    record { pattern = "10001011dddddd"; name = "BF label"; means = λ f. BranchIf Bf f.d } ∷
    record { pattern = "l0001011dddddddd"; name = "BF label"; means = λ f. BranchIf Bf f.d } ∷
    record { pattern = "0010nnnnmmmm1001"; name = "AND Rm,Rn"; means = λ f. TwoRegisters And f.n f.n } ∷
    []) ≡ false ∷ false ∷ false ∷ false ∷ []
faults_refused = refl
