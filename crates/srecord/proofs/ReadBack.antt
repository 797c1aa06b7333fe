-- A line that `export` writes is read back: it is cut off at its line feed, and its record has the bytes that were written.
-- Assumes nothing.
use Rattle.std.proofs.Common.{◌≡◌, ℕ, zero, suc, ◌+◌, ◌-◌, ◌/◌, ◌%◌, ◌^◌, ◌<◌, ◌≤◌, Bool, true, false, cond, eqb, ltb, List, [], ◌∷◌, ◌++◌, map, length, get_or, take, drop, sym, refl, ap, ◌∙◌, append_assoc, append-nil, mod-eq_of_lt, arith, lit<, lit≤, length-append, get_or-drop, eq-eqb, ne_eqb, le-leb, Some}
use lib.Seq.{append_snoc, get_or-append_seam, take-append_seam}
use Rattle.memory.proofs.Bytes.{Bytes}
use Rattle.memory.specs.Access.{value_at}
use Rattle.text.proofs.Values.{read_back}
use Rattle.text.specs.Reading.{value}
use Rattle.text.specs.Text.{ascii, digit, hex_in, line_feed}
use Rattle.text.specs.declared.digits.Case.TheVariants.{Upper}
use Rattle.text.specs.declared.reading.Letters.TheVariants.{EitherCase}
use Rattle.srecord.specs.declared.openings.Kind.TheVariants.{Data, Closing}
use Rattle.srecord.specs.Export.{bytes_in, check_byte, counted, line_of, pairs}
use Rattle.srecord.specs.Lines.{content, cut}
use Rattle.srecord.specs.Load.{records, sum}
use Rattle.srecord.specs.Promises.{with_bytes}
use Rattle.srecord.specs.declared.openings.Opening.{Opening}
use Rattle.srecord.specs.Records.{Record, address, among, bytes_of, data_of, opening_of, openings, record_of}
use Rattle.srecord.proofs.WrittenPairs.{sum_append}

-- A text in which a byte does not stand.
abbrev Without : ℕ → List ℕ → Type 0
Without b [] = Unit {0}
Without b (byte ∷ x) = (eqb byte b ≡ false) × Without b x

without_both : (b : ℕ) (x y : List ℕ) → Without b x → Without b y → Without b (x ++ y)
without_both b [] y h g = g
without_both b (byte ∷ x) y (e, h) g = (e, without_both b x y h g)

-- A digit's character is 48 or above.
high : (d : ℕ) → 48 ≤ digit Upper d
high d = go (ltb d 10)
  where
    go : (t : Bool) → 48 ≤ cond t (48 + d) (55 + d)
    go true = omega arith
    go false = omega arith

not_digit : (b d : ℕ) → b < 48 → eqb (digit Upper d) b ≡ false
not_digit b d small = ne_eqb (digit Upper d) b (λ (e : digit Upper d ≡ b). omega (arith, high d, e))

without_pairs : (b : ℕ) (bytes : List ℕ) → b < 48 → Without b (pairs bytes)
unfolding pairs hex_in
without_pairs b [] small = tt
without_pairs b (byte ∷ bytes) small = (not_digit b (byte / 16 % 16) small, (not_digit b (byte % 16) small, without_pairs b bytes small))

without_at : (b : ℕ) (x : List ℕ) (i : ℕ) → eqb 0 b ≡ false → Without b x → eqb (get_or x i 0) b ≡ false
without_at b [] i e h = e
without_at b (byte ∷ x) zero e (h, g) = h
without_at b (byte ∷ x) (suc i) e (h, g) = without_at b x i e g

-- Cut at its line feed.
cut_at : (begun x rest : List ℕ) → Without 10 x → cut begun (x ++ 10 ∷ rest) ≡ (begun ++ (x ++ (10 ∷ []))) ∷ cut [] rest
unfolding cut
cut_at begun [] rest h = refl
cut_at begun (byte ∷ x) rest (e, h) =
    rw e (cut_at (begun ++ (byte ∷ [])) x rest h ∙ ap (λ (line : List ℕ). line ∷ cut [] rest) (append_snoc begun byte (x ++ (10 ∷ []))))

-- What stands before the line feed.
content_of : (x : List ℕ) → Without 13 x → content (x ++ (10 ∷ [])) ≡ Some x
unfolding content
content_of x h =
    let last : length (x ++ (10 ∷ [])) - 1 ≡ length x = rw (length-append x (10 ∷ [])) (omega arith) in
    rw (last, get_or-append_seam x 10 [] 0, take-append_seam x (10 ∷ []), without_at 13 x (length x - 1) refl h)

-- The bytes that the digits of bytes make.
pub bytes_back : (bytes : List ℕ) → Bytes bytes → bytes_of (pairs bytes) ≡ Some bytes
unfolding bytes_of pairs hex_in
bytes_back [] small = refl
bytes_back (byte ∷ bytes) small =
    let this : value EitherCase (hex_in Upper 2 byte) ≡ Some byte =
    read_back EitherCase Upper refl 2 byte ∙ ap Some (mod-eq_of_lt (small 0)) in
    rw (this, bytes_back bytes (λ i. small (suc i)))

-- Count, address, data and check byte of a line.
abbrev pub line_bytes : ℕ → List ℕ → List ℕ
line_bytes a bytes = let all = counted a bytes in all ++ (check_byte all ∷ [])

bytes_both : (x y : List ℕ) → Bytes x → Bytes y → Bytes (x ++ y)
bytes_both [] y h g i = g i
bytes_both (byte ∷ x) y h g zero = h 0
bytes_both (byte ∷ x) y h g (suc i) = bytes_both x y (λ j. h (suc j)) g i

-- One byte before others.
bytes_cons : (byte : ℕ) (x : List ℕ) → byte < 256 → Bytes x → Bytes (byte ∷ x)
bytes_cons byte x h g zero = h
bytes_cons byte x h g (suc i) = g i

pub bytes_none : Bytes []
bytes_none i = lit< tt

pub bytes_take : (n : ℕ) (l : List ℕ) → Bytes l → Bytes (take n l)
bytes_take zero l h = bytes_none
bytes_take (suc n) [] h = bytes_none
bytes_take (suc n) (byte ∷ l) h = bytes_cons byte (take n l) (h 0) (bytes_take n l (λ i. h (suc i)))

pub bytes_drop : (n : ℕ) (l : List ℕ) → Bytes l → Bytes (drop n l)
bytes_drop n l h i = rw (get_or-drop n l i) (h (n + i))

bytes_of_number : (k n : ℕ) → Bytes (bytes_in k n)
bytes_of_number zero n = bytes_none
bytes_of_number (suc k) n =
    let small : n % 256 < 256 = omega arith in
    bytes_both (bytes_in k (n / 256)) (n % 256 ∷ []) (bytes_of_number k (n / 256)) (bytes_cons (n % 256) [] small bytes_none)

bytes_of_line : (a : ℕ) (bytes : List ℕ) → Bytes bytes → length bytes ≤ 16 → Bytes (line_bytes a bytes)
bytes_of_line a bytes small short =
    let all = counted a bytes in
    let count : 4 + length bytes + 1 < 256 = omega arith in
    let check : check_byte all < 256 = omega arith in
    bytes_both all (check_byte all ∷ [])
    (bytes_cons (4 + length bytes + 1) (bytes_in 4 a ++ bytes) count (bytes_both (bytes_in 4 a) bytes (bytes_of_number 4 a) small))
    (bytes_cons (check_byte all) [] check bytes_none)

abbrev pub record_with : Opening → ℕ → List ℕ → Record
record_with o a bytes = record { opening = o; bytes = line_bytes a bytes }

abbrev pub data_opening : Opening
data_opening = record { start = ascii "S3"; kind = Data; width = 4 }

abbrev pub closing_opening : Opening
closing_opening = record { start = ascii "S7"; kind = Closing; width = 4 }

-- A line that begins so, with the digits of these bytes.
back :
    (s t : ℕ) (o : Opening) (bytes : List ℕ) → eqb s 13 ≡ false → eqb t 13 ≡ false → among openings (s ∷ t ∷ []) ≡ Some o → Bytes bytes →
    record_of ((s ∷ t ∷ []) ++ pairs bytes ++ line_feed) ≡ with_bytes o (Some bytes)
unfolding record_of opening_of
back s t o bytes es et found small =
    rw (content_of (s ∷ t ∷ pairs bytes) (es, (et, without_pairs 13 bytes (lit< tt))), found, bytes_back bytes small)

long : (a : ℕ) (bytes : List ℕ) → length (line_bytes a bytes) ≡ 4 + length bytes + 1 + 1
long a bytes = let all = counted a bytes in length-append all (check_byte all ∷ []) ∙ omega arith

-- The records of the two kinds of lines.
data_back :
    (a : ℕ) (bytes : List ℕ) → Bytes bytes → length bytes ≤ 16 →
    record_of (line_of (ascii "S3") a bytes) ≡ Some (record_with data_opening a bytes)
unfolding line_of
data_back a bytes small short =
    let least : 5 ≤ 4 + length bytes + 1 = omega arith in
    back 83 51 data_opening (line_bytes a bytes) refl refl refl (bytes_of_line a bytes small short)
    ∙ rw (eq-eqb _ _ (long a bytes), le-leb _ _ least)

closing_back : record_of (line_of (ascii "S7") 0 []) ≡ Some (record_with closing_opening 0 [])
unfolding line_of
closing_back = back 83 55 closing_opening (line_bytes 0 []) refl refl refl (bytes_of_line 0 [] bytes_none (lit≤ tt))

-- A line before other text.
line_cut :
    (s t a : ℕ) (bytes rest : List ℕ) → eqb s 10 ≡ false → eqb t 10 ≡ false →
    records (line_of (s ∷ t ∷ []) a bytes ++ rest) ≡ record_of (line_of (s ∷ t ∷ []) a bytes) ∷ records rest
unfolding line_of
line_cut s t a bytes rest es et =
    ap (map record_of)
    (ap (cut []) (append_assoc ((s ∷ t ∷ []) ++ pairs (line_bytes a bytes)) line_feed rest)
    ∙ cut_at [] (s ∷ t ∷ pairs (line_bytes a bytes)) rest (es, (et, without_pairs 10 (line_bytes a bytes) (lit< tt))))

pub data_line :
    (a : ℕ) (bytes rest : List ℕ) → Bytes bytes → length bytes ≤ 16 →
    records (line_of (ascii "S3") a bytes ++ rest) ≡ Some (record_with data_opening a bytes) ∷ records rest
data_line a bytes rest small short = line_cut 83 51 a bytes rest refl refl ∙ ap (λ r. r ∷ records rest) (data_back a bytes small short)

pub closing_line : records (line_of (ascii "S7") 0 []) ≡ Some (record_with closing_opening 0 []) ∷ []
unfolding cut
closing_line =
    ap records (sym (append-nil (line_of (ascii "S7") 0 []))) ∙ line_cut 83 55 0 [] [] refl refl ∙ ap (λ r. r ∷ []) closing_back

-- The check byte brings the low byte of the sum to H'FF.
pub sum_back : (a : ℕ) (bytes : List ℕ) → sum (line_bytes a bytes) % 256 ≡ 0xff
sum_back a bytes = let all = counted a bytes in rw (sum_append all (check_byte all ∷ [])) (omega arith)

-- The address and the data that were written.
pub address_back : (a : ℕ) (bytes : List ℕ) → a < 2 ^ 32 → address (record_with data_opening a bytes) ≡ a
unfolding value_at
address_back a bytes h = omega arith

pub data_kept : (a : ℕ) (bytes : List ℕ) → data_of (record_with data_opening a bytes) ≡ bytes
data_kept a bytes =
    let n : 4 + length bytes + 1 - 5 ≡ length bytes = omega arith in
    rw (n, take-append_seam bytes (check_byte (counted a bytes) ∷ []))
