-- Laws of pairs of digits and of sums, byte by byte, and of texts placed one behind the other.
-- Assumes nothing.
use Rattle.std.proofs.Common.{◌≡◌, ℕ, suc, ◌+◌, ◌*◌, ◌/◌, ◌%◌, ◌<◌, ◌≤◌, List, [], ◌∷◌, ◌++◌, length, get_or, drop, set, sym, refl, ap, ◌∙◌, append_assoc, add-zero, add_assoc, add-suc, mod-eq_of_lt, suc-add, zero-add, add-one, arith, drop_of_length-le, drop-cons}
use lib.Seq.{sets}
use Rattle.text.specs.Text.{digit, hex_in}
use Rattle.text.specs.declared.digits.Case.TheVariants.{Upper}
use Rattle.srecord.specs.Export.{pairs}
use Rattle.srecord.specs.Load.{sum}

-- A byte's digits, and those of the bytes behind it.
pub pairs_next :
    (bytes b : List ℕ) (at i : ℕ) {high low : ℕ} → i < length bytes → get_or bytes i 0 < 256 → high ≡ digit Upper (get_or bytes i 0 / 16) →
    low ≡ digit Upper (get_or bytes i 0 % 16) →
    sets (set (set b (at + 2 * i) high) (at + 2 * i + 1) low) (at + 2 * (i + 1)) (pairs (drop (i + 1) bytes)) ≡
    sets b (at + 2 * i) (pairs (drop i bytes))
unfolding pairs hex_in
pairs_next bytes b at i inside small eh el =
    let first : get_or bytes i 0 / 16 < 16 = omega arith in
    let next : at + 2 * (i + 1) ≡ suc (suc (at + 2 * i)) = omega arith in
    rw (drop-cons bytes i 0 inside, next, add-one (at + 2 * i), add-one i, mod-eq_of_lt first, eh, el)

pub pairs_past : (bytes b : List ℕ) (at i : ℕ) → length bytes ≤ i → b ≡ sets b (at + 2 * i) (pairs (drop i bytes))
unfolding pairs
pairs_past bytes b at i over = rw (drop_of_length-le bytes over)

pub sum_append : (x y : List ℕ) → sum (x ++ y) ≡ sum x + sum y
sum_append [] y = sym (zero-add (sum y))
sum_append (byte ∷ x) y = ap (λ (n : ℕ). byte + n) (sum_append x y) ∙ sym (add_assoc byte (sum x) (sum y))

pub pairs_append : (x y : List ℕ) → pairs (x ++ y) ≡ pairs x ++ pairs y
unfolding pairs
pairs_append [] y = refl
pairs_append (byte ∷ x) y =
    ap (λ (rest : List ℕ). hex_in Upper 2 byte ++ rest) (pairs_append x y) ∙ sym (append_assoc (hex_in Upper 2 byte) (pairs x) (pairs y))

pub pairs_length : (bytes : List ℕ) → length (pairs bytes) ≡ 2 * length bytes
unfolding pairs hex_in
pairs_length [] = refl
pairs_length (byte ∷ bytes) = rw (pairs_length bytes) (omega arith)

-- One text, and then another behind it.
pub both : (b x y : List ℕ) (i : ℕ) → sets (sets b i x) (i + length x) y ≡ sets b i (x ++ y)
both b [] y i = rw (add-zero i)
both b (byte ∷ x) y i = rw (add-suc i (length x), sym (suc-add i (length x))) (both (set b i byte) x y (suc i))

pub behind : (b x y : List ℕ) (i : ℕ) {j : ℕ} → j ≡ i + length x → sets (sets b i x) j y ≡ sets b i (x ++ y)
behind b x y i e = rw e (both b x y i)
