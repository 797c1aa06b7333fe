-- The theorems about the code table: each is one test, computed over the rows, and a law that lifts it to every word.
-- Assumes nothing.
use mathlib.Core.Path.{◌≡◌, refl, sym, ◌∙◌, subst}
use mathlib.Core.Bool.{Bool, true, false, ◌||◌, not}
use mathlib.Core.List.{List, [], ◌∷◌, Memᴰ}
use mathlib.Core.Logic.{◌↔◌}
use Prim.Native.Nat.{ℕ, ◌+◌, ◌*◌, ◌/◌, ◌%◌, ◌≤◌}
use Prim.Native.String.{String}
use native.Mathlib.Omega.{arith}
use borrow.Author.Tests.{lt-ltb, ne_eqb}
use denote.Enum.Declared.{tag_of}
use lib.ListN.{length}
use lib.Dec.{T, T_not, ltb, eqb, eqb→eq, eqb_refl}
use Rattle.decoder.specs.Pattern.{Group, fixed, part, Code, Nibbles, nibbles, agrees, code, matches}
use Rattle.decoder.specs.Code.{meaning, row_matches, row_means, unmatched}
use Rattle.decoder.specs.Table.{Row, table}
use Rattle.decoder.specs.Slot.{rewrites_pc}
use Rattle.decoder.specs.declared.meaning.Meaning.{Meaning}
use Rattle.decoder.specs.declared.meaning.Meaning.TheVariants.{Undefined}
use Rattle.decoder.specs.contracts.meaning.Meaning.{the_type}
use Rattle.decoder.proofs.Conjunction.{all_pass, one_fails}
use Rattle.decoder.proofs.Rows.{every, how_many, at_most_one, whichever, means_all, undefined_none, none_undefined}
use Rattle.decoder.proofs.Widths.{within}

-- Two codes that fix one nibble to two numbers.
abbrev differ : Group → Group → Bool
differ (fixed a) (fixed b) = not (eqb a b)
differ (fixed a) (part s) = false
differ (part s) (fixed b) = false
differ (part s) (part t) = false

abbrev apart : Code → Code → Bool
apart c d =
    differ c.top d.top || (differ c.last d.last || (differ c.third d.third || differ c.second d.second))

abbrev rows_apart : Row → Row → Bool
rows_apart r q = apart (code r.pattern) (code q.pattern)

disagrees : (g h : Group) (x : ℕ) → T (differ g h) → T (agrees g x) → agrees h x ≡ false
disagrees (fixed a) (fixed b) x t m =
    ne_eqb x b (λ e. T_not (eqb a b) t (subst (λ (y : ℕ). T (eqb a y)) (sym (eqb→eq x a m) ∙ e) (eqb_refl a)))
disagrees (fixed a) (part s) x t m = absurd t
disagrees (part s) (fixed b) x t m = absurd t
disagrees (part s) (part u) x t m = absurd t

ruled_out : (w : Nibbles) (c d : Code) → T (apart c d) → T (matches c w) → matches d w ≡ false
ruled_out w c d t m =
    let both = all_pass (agrees c.top w.top) (agrees c.last w.last) (agrees c.third w.third) _ m in
    one_fails _ _ _ _ (differ c.top d.top) (differ c.last d.last) (differ c.third d.third) (differ c.second d.second)
    (λ x. disagrees c.top d.top w.top x both.0)
    (λ x. disagrees c.last d.last w.last x both.1)
    (λ x. disagrees c.third d.third w.third x both.2)
    (λ x. disagrees c.second d.second w.second x both.3) t

abbrev named : Bool → String → List String → List String
named true s names = s ∷ names
named false s names = names

abbrev names_where : (Row → Bool) → List Row → List String
names_where f [] = []
names_where f (r ∷ rest) = named (f r) r.name (names_where f rest)

-- Undefined is the first variant of its enum.
abbrev defined : Meaning → Bool
defined x = not (eqb (tag_of the_type x) 0)

pub rows_142 : length table ≡ 142
unfolding table
rows_142 = refl

module _ (w : ℕ) where
  one_nibble : (x : ℕ) → ltb (x % 16) 16 ≡ true
  one_nibble x = lt-ltb (x % 16) 16 (omega arith)

  two_nibbles : ltb (w / 16 % 16 * 16 + w % 16) 256 ≡ true
  two_nibbles = lt-ltb (w / 16 % 16 * 16 + w % 16) 256 (omega arith)

  three_nibbles : ltb ((w / 256 % 16 * 16 + w / 16 % 16) * 16 + w % 16) 4096 ≡ true
  three_nibbles = lt-ltb ((w / 256 % 16 * 16 + w / 16 % 16) * 16 + w % 16) 4096 (omega arith)

  -- No word matches two rows; so the order of the rows does not matter: whichever row matches gives the meaning.
  pub one_row : how_many table (nibbles w) ≤ 1
  unfolding table
  one_row = at_most_one (nibbles w) rows_apart (λ r q. ruled_out (nibbles w) (code r.pattern) (code q.pattern)) table tt

  pub whichever_row : (r : Row) → Memᴰ r table → T (row_matches (nibbles w) r) → meaning w ≡ row_means (nibbles w) r
  unfolding meaning table
  whichever_row =
      whichever (nibbles w) rows_apart (λ r q. ruled_out (nibbles w) (code r.pattern) (code q.pattern)) table tt

  -- A word is undefined exactly when no row matches it.
  pub undefined_when_unmatched : meaning w ≡ Undefined ↔ unmatched w ≡ true
  unfolding meaning table
  undefined_when_unmatched = (undefined_none (nibbles w) defined (λ t. t) table tt, none_undefined (nibbles w) table)

  -- Every register number in a meaning is below 16, and each other field within its width.
  rows_within : every (λ r. within (row_means (nibbles w) r)) table ≡ true
  unfolding table
  rows_within = rw (one_nibble w, one_nibble (w / 16), one_nibble (w / 256), two_nibbles, three_nibbles)

  pub fields_within : T (within (meaning w))
  unfolding meaning
  fields_within = means_all (nibbles w) within tt table (rw rows_within tt)

  -- The instructions that rewrite the PC are those that document 01 lists ("One step", item 3).
  pub rewriting : names_where (λ r. rewrites_pc (row_means (nibbles w) r)) table ≡
      "BF label" ∷ "BF/S label" ∷ "BRA label" ∷ "BRAF Rm" ∷ "BSR label" ∷ "BSRF Rm" ∷ "BT label" ∷ "BT/S label" ∷ "JMP @Rm" ∷ "JSR @Rm" ∷ "RTE" ∷ "RTS" ∷ "TRAPA #imm" ∷ []
  unfolding table
  rewriting = refl
