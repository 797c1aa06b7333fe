-- Laws of the lines that `export` writes: their parts, one behind the other, and how long they are.
-- Assumes nothing.
use Rattle.std.proofs.Common.{◌≡◌, ℕ, zero, suc, ◌+◌, ◌-◌, ◌*◌, ◌/◌, ◌%◌, ◌^◌, ◌<◌, ◌≤◌, min, Bool, true, false, ltb, List, [], ◌∷◌, ◌++◌, length, get_or, take, drop, set, sym, refl, ap, ◌∙◌, append_assoc, add_assoc, add-one, arith, length-append, length-drop, take-append-drop, length-take, le_refl, drop_of_length-le, take_all, drop-drop, ltb-false, ltb-true}
use native.Mathlib.Nat.{min-eq_left, min-eq_right}
use lib.Seq.{drop-append_seam, sets, take-append_seam, take-length}
use Rattle.text.specs.Text.{ascii, line_feed}
use Rattle.srecord.specs.Export.{check_byte, counted, s3_lines, exported, line_of, memory_lines, pairs}
use Rattle.srecord.specs.Promises.{Places}
use Rattle.srecord.specs.Load.{sum}
use Rattle.srecord.proofs.WrittenPairs.{behind, both, pairs_append, pairs_length, sum_append}

-- Count and address, as the code has them.
abbrev pub head : ℕ → ℕ → List ℕ
head n address =
    (n + 5) ∷ (address / 0x100_0000) ∷ (address / 0x1_0000 % 256) ∷ (address / 0x100 % 256) ∷ (address % 256) ∷ []

pub counted_head : (address : ℕ) (bytes : List ℕ) → address < 2 ^ 32 → counted address bytes ≡ head (length bytes) address ++ bytes
counted_head address bytes h =
    let a : 4 + length bytes + 1 ≡ length bytes + 5 = omega arith in
    let b : address / 256 / 256 / 256 % 256 ≡ address / 0x100_0000 = omega arith in
    let c : address / 256 / 256 % 256 ≡ address / 0x1_0000 % 256 = omega arith in
    rw (a, b, c)

pub line_length :
    (start : List ℕ) (address : ℕ) (bytes : List ℕ) → length (line_of start address bytes) ≡ length start + (2 * length bytes + 13)
unfolding line_of
line_length start address bytes =
    let all = counted address bytes in
    let x = all ++ (check_byte all ∷ []) in
    length-append (start ++ pairs x) line_feed
    ∙ rw (length-append start (pairs x), pairs_length x, length-append all (check_byte all ∷ [])) (omega arith)

-- A line's start, byte by byte.
start_placed :
    (b start : List ℕ) (at : ℕ) → length start ≡ 2 → set (set b at (get_or start 0 0)) (at + 1) (get_or start 1 0) ≡ sets b at start
start_placed b [] at e = absurd (omega arith)
start_placed b (x ∷ []) at e = absurd (omega arith)
start_placed b (x ∷ y ∷ []) at e = rw (add-one at)
start_placed b (x ∷ y ∷ z ∷ l) at e = absurd (omega arith)

check_of : (x y : List ℕ) → 255 - (sum x % 256 + sum y % 256) % 2 ^ 8 ≡ check_byte (x ++ y)
check_of x y = rw (sum_append x y) (omega arith)

-- A line's five parts, each placed behind the one before it.
module _ (b start x bytes : List ℕ) (at n check : ℕ) (two : length start ≡ 2) (five : length x ≡ 5) (many : length bytes ≡ n) where
  in_parts :
      set
      (sets (sets (sets (sets b at start) (at + 2) (pairs x)) (at + 12) (pairs bytes)) (at + 12 + 2 * n) (pairs (check ∷ [])))
      (at + 12 + 2 * n + 2)
      10 ≡
      sets b at (start ++ pairs (x ++ bytes ++ (check ∷ [])) ++ line_feed)
  in_parts =
      let p = start ++ pairs x in
      let q = p ++ pairs bytes in
      let r = q ++ pairs (check ∷ []) in
      let lp : length p ≡ 12 = length-append start (pairs x) ∙ rw (two, pairs_length x, five) in
      let lq : length q ≡ 12 + 2 * n = length-append p (pairs bytes) ∙ rw (lp, pairs_length bytes, many) in
      let lr : length r ≡ 14 + 2 * n = length-append q (pairs (check ∷ [])) ∙ rw (lq, pairs_length (check ∷ [])) (omega arith) in
      let same : r ≡ start ++ pairs (x ++ bytes ++ (check ∷ [])) =
      rw (pairs_append (x ++ bytes) (check ∷ []), pairs_append x bytes) (simp append_assoc) in
      rw (
        behind b start (pairs x) at (ap (λ (k : ℕ). at + k) (sym two)),
        behind b p (pairs bytes) at (ap (λ (k : ℕ). at + k) (sym lp)),
        behind b q (pairs (check ∷ [])) at {j = at + 12 + 2 * n} (omega (arith, lq)),
      )
      (behind b r line_feed at (omega (arith, lr)) ∙ ap (λ (text : List ℕ). sets b at (text ++ line_feed)) same)

pub line_placed :
    (b : List ℕ) (at : ℕ) (start : List ℕ) (address : ℕ) (bytes : List ℕ) {b1 b2 b3 : List ℕ} {check : ℕ} → length start ≡ 2 →
    address < 2 ^ 32 → check ≡ 255 - (sum (head (length bytes) address) % 256 + sum bytes % 256) % 2 ^ 8 →
    b1 ≡ sets (set (set b at (get_or start 0 0)) (at + 1) (get_or start 1 0)) (at + 2) (pairs (head (length bytes) address)) →
    b2 ≡ sets b1 (at + 12) (pairs bytes) → b3 ≡ sets b2 (at + 12 + 2 * length bytes) (pairs (check ∷ [])) →
    set b3 (at + 12 + 2 * length bytes + 2) 10 ≡ sets b at (line_of start address bytes)
unfolding line_of
line_placed b at start address bytes l h e p q r =
    let x = head (length bytes) address in
    rw (r, q, p, e, check_of x bytes, start_placed b start at l)
    (in_parts b start x bytes at (length bytes) (check_byte (x ++ bytes)) l refl refl)
    ∙ ap (λ (all : List ℕ). sets b at (start ++ pairs (all ++ (check_byte all ∷ [])) ++ line_feed)) (sym (counted_head address bytes h))

-- The data lines from an address on.
abbrev pub lines_from : List ℕ → ℕ → List ℕ
lines_from memory at = s3_lines ((length memory - at + 15) / 16) at (drop at memory)

pub all_lines : (memory : List ℕ) → lines_from memory 0 ≡ memory_lines memory
all_lines memory = let whole : length memory - 0 ≡ length memory = omega arith in rw whole

pub next_line :
    (memory : List ℕ) (at : ℕ) → at < length memory →
    lines_from memory at ≡ line_of (ascii "S3") at (take 16 (drop at memory)) ++ lines_from memory (at + 16)
unfolding s3_lines
next_line memory at inside =
    let more : (length memory - at + 15) / 16 ≡ suc ((length memory - (at + 16) + 15) / 16) = omega arith in
    rw (more, drop-drop 16 at memory)

pub last_line : (memory : List ℕ) (at : ℕ) → length memory ≤ at → lines_from memory at ≡ []
unfolding s3_lines
last_line memory at over = let empty : (length memory - at + 15) / 16 ≡ 0 = omega arith in rw empty

-- A line takes 16 bytes, or those that are left.
piece : (l : List ℕ) → take (min 16 (length l)) l ≡ take 16 l
piece l = go (ltb (length l) 16) refl
  where
    go : (t : Bool) → ltb (length l) 16 ≡ t → take (min 16 (length l)) l ≡ take 16 l
    go true e =
        let short : length l ≤ 16 = omega (arith, ltb-true (length l) 16 e) in
        rw (min-eq_right short, take-length l, take_all 16 l short)
    go false e = rw (min-eq_left (ltb-false (length l) 16 e))

-- How long the data lines are that so many bytes make.
abbrev pub lines_length : ℕ → ℕ
lines_length n = 2 * n + 15 * ((n + 15) / 16)

piece_left : (n k : ℕ) → 0 < n → k ≡ min 16 n → 2 + (2 * k + 13) + lines_length (n - 16) ≡ lines_length n
piece_left n k more e = omega (arith, e)

piece_behind : (l : List ℕ) → drop (min 16 (length l)) l ≡ drop 16 l
piece_behind l = go (ltb (length l) 16) refl
  where
    go : (t : Bool) → ltb (length l) 16 ≡ t → drop (min 16 (length l)) l ≡ drop 16 l
    go true e =
        let short : length l ≤ 16 = omega (arith, ltb-true (length l) 16 e) in
        rw (min-eq_right short, drop_of_length-le l (le_refl (length l)), drop_of_length-le l short)
    go false e = rw (min-eq_left (ltb-false (length l) 16 e))

-- A chunk of 16, and what stands behind it.
pub chunk :
    {x rest : List ℕ} (more : List ℕ) → rest ≡ x ++ more → length x ≡ min 16 (length rest) → (x ≡ take 16 rest) × (more ≡ drop 16 rest)
chunk {x} {rest} more e n =
    let front : take (length x) rest ≡ x = rw e (take-append_seam x more) in
    let back : drop (length x) rest ≡ more = rw e (drop-append_seam x more) in
    (sym front ∙ rw n (piece rest), sym back ∙ rw n (piece_behind rest))

pub piece_fits :
    (n at place room : ℕ) {k : ℕ} → at < n → k ≡ min 16 (n - at) → place + lines_length (n - at) ≡ lines_length n → lines_length n ≤ room →
    place + (2 * k + 15) ≤ room
piece_fits n at place room {k} inside e left h =
    let more : 0 < n - at = omega arith in
    omega (arith, piece_left (n - at) k more e)

pub line_done :
    (memory b : List ℕ) (at place : ℕ) {a : List ℕ} {end : ℕ} → at < length memory →
    Places (line_of (ascii "S3") at (take 16 (drop at memory))) b place a end →
    (end + lines_length (length memory - (at + 16)) ≡ place + lines_length (length memory - at)) ×
    (sets a end (lines_from memory (at + 16)) ≡ sets b place (lines_from memory at))
line_done memory b at place inside done =
    let l = drop at memory in
    let m = length memory - at in
    let more : 0 < m = omega arith in
    let many : length (take 16 l) ≡ min 16 m = length-take 16 l ∙ rw (length-drop at memory) in
    let fewer : length memory - (at + 16) ≡ m - 16 = omega arith in (
      rw (done.ends, line_length (ascii "S3") at (take 16 l), many, fewer)
          (add_assoc place (2 + (2 * min 16 m + 13)) (lines_length (m - 16)) ∙ ap (λ (x : ℕ). place + x) (piece_left m (min 16 m) more refl)),
      rw (done.places, done.ends, next_line memory at inside)
          (both b (line_of (ascii "S3") at (take 16 l)) (lines_from memory (at + 16)) place),
    )

pub s3_lines_length :
    (n address : ℕ) (memory : List ℕ) → n ≡ (length memory + 15) / 16 → length (s3_lines n address memory) ≡ 2 * length memory + 15 * n
unfolding s3_lines
s3_lines_length zero address memory e = omega arith
s3_lines_length (suc n) address memory e =
    let line = line_of (ascii "S3") address (take 16 memory) in
    let whole : length (take 16 memory) + length (drop 16 memory) ≡ length memory =
    sym (length-append (take 16 memory) (drop 16 memory)) ∙ ap length (take-append-drop 16 memory) in
    let fewer : n ≡ (length (drop 16 memory) + 15) / 16 = omega (arith, length-drop 16 memory) in
    length-append line (s3_lines n (address + 16) (drop 16 memory))
    ∙ rw (line_length (ascii "S3") address (take 16 memory), s3_lines_length n (address + 16) (drop 16 memory) fewer)
    (omega (arith, whole))

-- The length of the text, exactly.
pub exported_length : (memory : List ℕ) → length (exported memory) ≡ 2 * length memory + 15 * ((length memory + 15) / 16) + 15
unfolding exported
exported_length memory =
    let n = (length memory + 15) / 16 in
    length-append (s3_lines n 0 memory) (line_of (ascii "S7") 0 [])
    ∙ rw (s3_lines_length n 0 memory refl, line_length (ascii "S7") 0 [])
