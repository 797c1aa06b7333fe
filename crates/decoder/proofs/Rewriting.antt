-- Which families of instructions rewrite the PC, as the default arm of a match knows them.
-- Assumes nothing.
use mathlib.Core.Path.{◌≡◌, refl}
use mathlib.Core.Bool.{true, false}
use mathlib.Core.List.{List, [], ◌∷◌}
use Prim.Native.Nat.{ℕ}
use types.Run.{OneOf, miss}
use denote.Enum.Declared.{tag_of}
use Rattle.decoder.specs.Slot.{rewrites_pc}
use Rattle.decoder.specs.declared.meaning.Meaning.{Meaning}
use Rattle.decoder.specs.declared.meaning.Meaning.TheVariants.{BranchIf, Branch, BranchTo, Return, Trapa}
use Rattle.decoder.specs.contracts.meaning.Meaning.{the_type}

-- The variants that do not rewrite the PC, by their places in the enum.
abbrev pub others : List ℕ
others = 0 ∷ 1 ∷ 2 ∷ 3 ∷ 4 ∷ 5 ∷ 6 ∷ 7 ∷ 8 ∷ 9 ∷ 10 ∷ 11 ∷ 12 ∷ 13 ∷ 14 ∷ 15 ∷ 16 ∷ 17 ∷ 18 ∷ 19 ∷ 20 ∷ 21 ∷ []

pub stays : (x : Meaning) → OneOf others (tag_of the_type x) → false ≡ rewrites_pc x
stays (BranchIf op d) h = absurd (miss others 22 tt h)
stays (Branch op d) h = absurd (miss others 23 tt h)
stays (BranchTo op m) h = absurd (miss others 24 tt h)
stays (Return op) h = absurd (miss others 25 tt h)
stays (Trapa i) h = absurd (miss others 26 tt h)
stays other h = refl

-- The variants that rewrite the PC, by their places in the enum.
abbrev pub rewriters : List ℕ
rewriters = 22 ∷ 23 ∷ 24 ∷ 25 ∷ 26 ∷ []

pub rewrites : (x : Meaning) → OneOf rewriters (tag_of the_type x) → rewrites_pc x ≡ true
rewrites (BranchIf op d) h = refl
rewrites (Branch op d) h = refl
rewrites (BranchTo op m) h = refl
rewrites (Return op) h = refl
rewrites (Trapa i) h = refl
rewrites other h = absurd (miss rewriters (tag_of the_type other) tt h)
