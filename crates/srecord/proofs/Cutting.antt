-- Laws of lines: a text cut behind its first line feed, as `split_inclusive` cuts it.
-- Assumes nothing.
use Rattle.std.proofs.Common.{◌≡◌, ℕ, zero, suc, ◌+◌, ◌<◌, ◌≤◌, min, true, false, List, [], ◌∷◌, ◌++◌, ◌==◌, length, refl, ap, ◌∙◌, append_assoc, arith, length-append, ne_eqb}
use Rattle.std.specs.List.{IsFirstMatchOrLen}
use Rattle.srecord.specs.Lines.{cut, lines}

empty_of : (x : List ℕ) → length x ≡ 0 → x ≡ []
empty_of [] e = refl
empty_of (b ∷ x) e = absurd (omega arith)

cut_taken :
    (begun x rest more : List ℕ) (i : ℕ) → rest ≡ x ++ more → length x ≡ min (i + 1) (length rest) →
    IsFirstMatchOrLen (λ b. b == 10) rest i → 0 < length rest → cut begun rest ≡ (begun ++ x) ∷ cut [] more
unfolding cut
cut_taken begun [] rest more i e n f left = absurd (omega arith)
cut_taken begun (b ∷ x) [] more i e n f left = absurd (omega arith)
cut_taken begun (b ∷ x) (a ∷ rest) more zero e n f left =
    let feed : (a == 10) ≡ true = f.1 (omega arith) 0 in
    let same : a ≡ b = cc in
    let last : x ≡ [] = empty_of x (omega arith) in
    let behind : rest ≡ x ++ more = cc in
    rw (feed, same, last) (rw last at (ap (λ (l : List ℕ). (begun ++ (b ∷ [])) ∷ cut [] l) behind))
cut_taken begun (b ∷ x) (a ∷ []) more (suc i) e n f left =
    let other : (a == 10) ≡ false = f.0 0 0 (omega arith) (omega arith) in
    let same : a ≡ b = cc in
    let last : x ≡ [] = empty_of x (omega arith) in
    let behind : [] ≡ x ++ more = cc in
    let none_more : [] ≡ more = rw last at behind in
    let some_begun : length (begun ++ (b ∷ [])) ≡ 0 → ⊥ = λ h. omega (arith, length-append begun (b ∷ [])) in
    rw (other, same, last, ← none_more, ne_eqb _ 0 some_begun)
cut_taken begun (b ∷ x) (a ∷ c ∷ rest) more (suc i) e n f left =
    let other : (a == 10) ≡ false = f.0 0 0 (omega arith) (omega arith) in
    let same : a ≡ b = cc in
    let behind : c ∷ rest ≡ x ++ more = cc in
    rw (other, same)
    (cut_taken (begun ++ (b ∷ [])) x (c ∷ rest) more i behind (omega arith)
    (λ k d low high. f.0 (suc k) d (omega arith) (omega arith), λ inside d. f.1 (omega arith) d)
    (omega arith)
    ∙ rw (append_assoc begun (b ∷ []) x))

-- What is taken is the first line.
pub first_line :
    {x rest : List ℕ} (more : List ℕ) {i : ℕ} → rest ≡ x ++ more → length x ≡ min (i + 1) (length rest) →
    IsFirstMatchOrLen (λ b. b == 10) rest i → 0 < length rest → lines rest ≡ x ∷ lines more
first_line {x} {rest} more {i} e n f left = cut_taken [] x rest more i e n f left

pub no_line : (rest : List ℕ) → length rest ≡ 0 → lines rest ≡ []
unfolding cut
no_line rest e = rw (empty_of rest e)

pub shorter :
    (x rest more : List ℕ) (i : ℕ) → rest ≡ x ++ more → length x ≡ min (i + 1) (length rest) → 0 < length rest →
    length more + 1 ≤ length rest
shorter x rest more i e n left =
    let whole : length rest ≡ length x + length more = ap length e ∙ length-append x more in
    omega (arith, whole)
