-- What `export` writes, `load` takes back: into every memory of the same length, to the same bytes. (`Bytes`: each is below 256, as in
-- every lent memory.)
-- Assumes nothing.
use Rattle.std.proofs.Common.{◌≡◌, ℕ, zero, suc, ◌+◌, ◌/◌, ◌%◌, ◌^◌, ◌<◌, ◌≤◌, min, max, Bool, true, false, cond, ◌&&◌, eqb, ltb, List, [], ◌∷◌, ◌++◌, length, take, drop, sym, refl, ap, ◌∙◌, subst, append_assoc, le_trans, arith, length-append, length-drop, take-append-drop, length-take, le-ltb, eq-eqb, Option, Some, Result, Ok}
use Rattle.std.specs.Bool.{⊤}
use lib.Seq.{drop-append-add, sets, sets-eq, take-append_seam}
use Rattle.memory.proofs.Acceptance.{accepted_size}
use Rattle.memory.proofs.Bytes.{Bytes}
use Rattle.memory.specs.Access.{value_at}
use Rattle.memory.specs.Lengths.{first, refused_length}
use Rattle.text.specs.Text.{ascii}
use Rattle.srecord.specs.declared.Refused.{Refused}
use Rattle.srecord.specs.Export.{Exports, s3_lines, exported, line_of, refused_export}
use Rattle.srecord.specs.Load.{Loads, Verdict, closed, end_of, judged, kind_of, memory_after, placed, record_tests, records}
use Rattle.srecord.specs.Load.{sum, verdict, verdict_on, written_twice}
use Rattle.srecord.specs.Records.{Record, address, data_of, is_count}
use Rattle.srecord.proofs.Exports.{length_accepted}
use Rattle.srecord.proofs.ReadBack.{address_back, bytes_drop, bytes_take, closing_line, closing_opening}
use Rattle.srecord.proofs.ReadBack.{data_kept, data_line, data_opening, record_with, sum_back}
use Rattle.srecord.proofs.Refusals.{told_determined}

-- The records end at or before an address.
abbrev Below : ℕ → List Record → Type 0
Below a [] = Unit {0}
Below a (r ∷ earlier) = (end_of r ≤ a) × Below a earlier

below_more : (a b : ℕ) (earlier : List Record) → a ≤ b → Below a earlier → Below b earlier
below_more a b [] h g = tt
below_more a b (r ∷ earlier) h (g, rest) = (le_trans g h, below_more a b earlier h rest)

apart : (a b c d : ℕ) → d ≤ a → ltb (max a b) (min c d) ≡ false
apart a b c d h = let more : min c d ≤ max a b = omega arith in le-ltb (max a b) (min c d) more

nothing : (a b c d : ℕ) → c ≤ a → ltb (max a b) (min c d) ≡ false
nothing a b c d h = let more : min c d ≤ max a b = omega arith in le-ltb (max a b) (min c d) more

-- A line behind all others writes no address again, nor does one that writes nothing.
behind_once : (r : Record) (earlier : List Record) → Below (address r) earlier → written_twice r earlier ≡ false
unfolding written_twice
behind_once r [] h = refl
behind_once r (s ∷ earlier) (h, rest) = rw (apart (address r) (address s) (end_of r) (end_of s) h) (behind_once r earlier rest)

nothing_once : (r : Record) (earlier : List Record) → end_of r ≤ address r → written_twice r earlier ≡ false
unfolding written_twice
nothing_once r [] h = refl
nothing_once r (s ∷ earlier) h = rw (nothing (address r) (address s) (end_of r) (end_of s) h) (nothing_once r earlier h)

and_false : (b : Bool) → (b && false) ≡ false
and_false true = refl
and_false false = refl

passes :
    (size : ℕ) (earlier : List Record) (r : Record) → closed earlier ≡ false → sum r.bytes % 256 ≡ 0xff → end_of r ≤ size →
    written_twice r earlier ≡ false → is_count (kind_of r) ≡ false → first (record_tests size earlier r) ≡ 0
unfolding record_tests
passes size earlier r unclosed check inside once other =
    rw (unclosed, eq-eqb _ _ check, le-ltb _ _ inside, and_false, once, other)

goes_on :
    (size n : ℕ) (earlier : List Record) (r : Record) (rest : List (Option Record)) → first (record_tests size earlier r) ≡ 0 →
    judged size n earlier (Some r ∷ rest) ≡ judged size (n + 1) (r ∷ earlier) rest
unfolding judged
goes_on size n earlier r rest e = rw e

abbrev ending : List ℕ
ending = line_of (ascii "S7") 0 []

abbrev ends : Record
ends = record_with closing_opening 0 []

closes : (size n : ℕ) (earlier : List Record) → closed earlier ≡ false → judged size n earlier (records ending) ≡ verdict 0 0
unfolding judged closed value_at
closes size n earlier unclosed =
    ap (judged size n earlier) closing_line
    ∙ goes_on size n earlier ends [] (passes size earlier ends unclosed refl (omega arith) (nothing_once ends earlier (omega arith)) refl)

-- A data line, read back.
module _ (a : ℕ) (m : List ℕ) where
  abbrev piece : List ℕ
  piece = take 16 m

  abbrev left : List ℕ
  left = drop 16 m

  abbrev line : Record
  line = record_with data_opening a piece

  piece_short : length piece ≤ 16
  piece_short = rw (length-take 16 m) (omega arith)

  first_line :
      (k : ℕ) → Bytes m →
      records (line_of (ascii "S3") a piece ++ s3_lines k (a + 16) left ++ ending) ≡
      Some line ∷ records (s3_lines k (a + 16) left ++ ending)
  first_line k bytes =
      ap records (append_assoc (line_of (ascii "S3") a piece) (s3_lines k (a + 16) left) ending)
      ∙ data_line a piece (s3_lines k (a + 16) left ++ ending) (bytes_take 16 m bytes) piece_short

  line_ends : a < 2 ^ 32 → end_of line ≡ a + length piece
  line_ends h = rw (address_back a piece h, data_kept a piece)

  fewer : {k : ℕ} → suc k ≡ (length m + 15) / 16 → k ≡ (length left + 15) / 16
  fewer e = rw (length-drop 16 m) (omega arith)

-- The lines of a memory pass, from an address on.
lines_pass :
    (size n k a : ℕ) (earlier : List Record) (m : List ℕ) → size < 2 ^ 32 → Bytes m → (0 < length m → a + length m ≤ size) →
    closed earlier ≡ false → Below a earlier → k ≡ (length m + 15) / 16 →
    judged size n earlier (records (s3_lines k a m ++ ending)) ≡ verdict 0 0
unfolding s3_lines closed
lines_pass size n zero a earlier m long bytes inside unclosed below e = closes size n earlier unclosed
lines_pass size n (suc k) a earlier m long bytes inside unclosed below e =
    let r = line a m in
    let fits : a + length m ≤ size = inside (omega arith) in
    let small : a < 2 ^ 32 = omega arith in
    let held : length (piece a m) ≡ min 16 (length m) = length-take 16 m in
    let end : end_of r ≤ a + 16 = rw (line_ends a m small) (omega arith) in
    let within : end_of r ≤ size = rw (line_ends a m small) (omega arith) in
    let apart : Below (address r) earlier = subst (λ (x : ℕ). Below x earlier) (sym (address_back a (piece a m) small)) below in
    ap (judged size n earlier) (first_line a m k bytes)
    ∙ goes_on size n earlier r _ (passes size earlier r unclosed (sum_back a (piece a m)) within (behind_once r earlier apart) refl)
    ∙ lines_pass size (n + 1) k (a + 16) (r ∷ earlier) (left a m) long (bytes_drop 16 m bytes)
    (λ (more : 0 < length (left a m)). omega (arith, length-drop 16 m, fits))
    unclosed (end, below_more a (a + 16) earlier (omega arith) below) (fewer a m e)

overwritten : (p q d : List ℕ) {a : ℕ} → length p ≡ a → length d ≤ length q → sets (p ++ q) a d ≡ p ++ d ++ drop (length d) q
overwritten p q d {a} e h =
    let room : a + length d ≤ length (p ++ q) = rw (length-append p q, e) (omega arith) in
    sets-eq d (p ++ q) a room ∙ rw (sym e, take-append_seam p q, drop-append-add p q (length d))

none_left : (q m : List ℕ) → length q ≡ length m → length m ≡ 0 → q ≡ m
none_left [] [] e h = refl
none_left [] (x ∷ m) e h = absurd (omega arith)
none_left (x ∷ q) m e h = absurd (omega arith)

-- The data of the lines, one behind the other, take the place of what stood there.
lines_placed :
    (size k a : ℕ) (m p q : List ℕ) → size < 2 ^ 32 → Bytes m → (0 < length m → (length p ≡ a) × (a + length m ≤ size)) →
    length q ≡ length m → k ≡ (length m + 15) / 16 → placed (p ++ q) (records (s3_lines k a m ++ ending)) ≡ p ++ m
unfolding s3_lines placed
lines_placed size zero a m p q long bytes inside e k =
    ap (placed (p ++ q)) closing_line ∙ ap (λ (x : List ℕ). p ++ x) (none_left q m e (omega arith))
lines_placed size (suc k) a m p q long bytes inside e n =
    let d = piece a m in
    let rest = left a m in
    let now = inside (omega arith) in
    let small : a < 2 ^ 32 = omega (arith, now.1) in
    let held : length d ≡ min 16 (length m) = length-take 16 m in
    let over : sets (p ++ q) (address (line a m)) (data_of (line a m)) ≡ p ++ d ++ drop (length d) q =
    rw (address_back a d small, data_kept a d) (overwritten p q d now.0 (omega arith)) in
    ap (placed (p ++ q)) (first_line a m k bytes)
    ∙ ap (λ (l : List ℕ). placed l (records (s3_lines k (a + 16) rest ++ ending))) over
    ∙ lines_placed size k (a + 16) rest (p ++ d) (drop (length d) q) long (bytes_drop 16 m bytes)
    (λ (more : 0 < length rest). (
      rw (length-append p d) (omega (arith, now.0, held, length-drop 16 m)),
      omega (arith, now.1, length-drop 16 m),
    ))
    (rw (length-drop (length d) q, length-drop 16 m) (omega (arith, held, e))) (fewer a m n)
    ∙ append_assoc p d rest ∙ ap (λ (x : List ℕ). p ++ x) (take-append-drop 16 m)

pub round_trip :
    (m other : List ℕ) → Bytes m → refused_length (length m) ≡ 0 → length other ≡ length m →
    (verdict_on (exported m) (length other) ≡ verdict 0 0) × (memory_after (exported m) other ≡ m)
unfolding exported closed
round_trip m other bytes accepted same =
    (passed, ap (λ (v : Verdict). cond (eqb v.number 0) (placed other (records (exported m))) other) passed ∙ taken)
  where
    n : ℕ
    n = (length m + 15) / 16

    size : length other < 2 ^ 32
    size = omega (arith, accepted_size (length m) accepted)

    fits : 0 + length m ≤ length other
    fits = omega arith

    passed : verdict_on (exported m) (length other) ≡ verdict 0 0
    passed =
        ap (λ (k : ℕ). cond (eqb k 0) (judged (length other) 1 [] (records (exported m))) (verdict k 0)) (ap refused_length same ∙ accepted)
        ∙ lines_pass (length other) 1 n 0 [] m size bytes (λ more. fits) refl tt refl

    taken : placed other (records (exported m)) ≡ m
    taken = lines_placed (length other) n 0 m [] other size bytes (λ more. (refl, fits)) same refl

-- In the words of the two promises: what an export has written, a load takes, and leaves the exported memory.
pub loads_back :
    (m buffer other : List ℕ) (n : ℕ) (l : Result ⊤ Refused) (written after : List ℕ) → Bytes m → length other ≡ length m →
    Exports m buffer (Ok n) written → Loads (take n written) other l after → (l ≡ Ok tt) × (after ≡ m)
loads_back m buffer other n l written after bytes same exports loads =
    let text = exported m in
    let none_given : refused_export m buffer ≡ 0 = sym exports.refuses in
    let yes : eqb (refused_export m buffer) 0 ≡ true = eq-eqb _ _ none_given in
    let all : written ≡ text ++ drop (length text) buffer =
    exports.leaves ∙ ap (λ (t : Bool). cond t (text ++ drop (length text) buffer) buffer) yes in
    let same_text : take n written ≡ text = rw (exports.counts, all) (take-append_seam text (drop (length text) buffer)) in
    let back : Loads text other l after = subst (λ (t : List ℕ). Loads t other l after) same_text loads in
    let trip = round_trip m other bytes (length_accepted m buffer none_given) same in
    (told_determined l (Ok tt) (back.answers ∙ trip.0), back.leaves ∙ trip.1)
