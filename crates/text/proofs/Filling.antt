-- What a text written from a buffer's start leaves: as much of it as there is room for, then the buffer's own bytes.
-- Assumes nothing.
use mathlib.Core.Path.{◌≡◌, refl, ap, ◌∙◌}
use mathlib.Core.List.{List, [], ◌∷◌, ◌++◌, append-nil}
use Prim.Native.Nat.{ℕ, suc, ◌+◌, ◌<◌, min}
use native.Mathlib.Nat.{add-zero, le_refl, min-zero, suc-min-suc, zero-add, zero-min}
use native.Mathlib.Omega.{arith}
use borrow.Author.Tests.{le-ltb, lt-ltb}
use lib.ListN.{drop, length, length-append, take}
use lib.Seq.{append_snoc, set-append_seam}
use Rattle.text.specs.Writing.{Page, page, put, write}

full : (l text : List ℕ) → write text (page l (length l)) ≡ page l (length l)
unfolding put write
full l [] = refl
full l (byte ∷ text) = ap (write text) (rw (le-ltb (length l) (length l) (le_refl (length l)))) ∙ full l text

-- A byte goes to the first place behind p.
put_behind : (p : List ℕ) (old byte : ℕ) (rest : List ℕ) →
    put byte (page (p ++ old ∷ rest) (length p)) ≡ page (p ++ byte ∷ [] ++ rest) (length (p ++ byte ∷ []))
unfolding put
put_behind p old byte rest =
    let room : length p < length (p ++ old ∷ rest) = rw (length-append p (old ∷ rest)) (omega arith) in
    rw (lt-ltb _ _ room, set-append_seam p old rest byte, append_snoc p byte rest, length-append p (byte ∷ []))

-- The text over what stands behind p, and the place it ends at.
abbrev over : List ℕ → List ℕ → ℕ → List ℕ → Page
over p rest n text = page (p ++ (take n text ++ drop n rest)) (length p + n)

behind : (p rest text : List ℕ) → write text (page (p ++ rest) (length p)) ≡ over p rest (min (length rest) (length text)) text
unfolding write
behind p rest [] = rw (min-zero (length rest), add-zero (length p))
behind p [] (byte ∷ text) = rw (zero-min (suc (length text)), add-zero (length p), append-nil p) (full p (byte ∷ text))
behind p (old ∷ rest) (byte ∷ text) =
    ap (write text) (put_behind p old byte rest) ∙ behind (p ++ byte ∷ []) rest text
    ∙ rw (suc-min-suc (length rest) (length text), length-append p (byte ∷ []), append_snoc p byte (take (min (length rest) (length text)) text ++ drop (min (length rest) (length text)) rest)) (ap (page _) (omega arith))

pub written : (buffer text : List ℕ) →
    write text (page buffer 0) ≡
    page (take (min (length buffer) (length text)) text ++ drop (min (length buffer) (length text)) buffer) (min (length buffer) (length text))
written buffer text = behind [] buffer text ∙ ap (page _) (zero-add (min (length buffer) (length text)))
