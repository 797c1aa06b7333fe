-- The laws of marks: a bit that is set leaves the others, and what was marked is marked with what is asked for.
-- Assumes nothing.
use Rattle.std.proofs.Common.{◌≡◌, ℕ, zero, suc, ◌+◌, ◌-◌, ◌*◌, ◌/◌, ◌%◌, ◌^◌, ◌<◌, ◌≤◌, min, Bool, true, false, ◌&&◌, ◌||◌, eqb, ltb, leb, List, length, get_or, set, sym, refl, ◌∙◌, true≢false, lt_of_le_of_lt, mod-eq_of_lt, one-mul, arith, get_or-set_other, get_or-set_same, pow_pos, ltb-false, ltb-true, le-ltb, lt-ltb, eqb-true, le-leb, leb-false, leb-true}
use mathlib.Core.Bool.{or_assoc, or-false, or-true, false≢true}
use native.Mathlib.Nat.{add-div_right, div-div-eq-div-mul, pow-le-pow_right, pow-succ'}
use borrow.Author.Tests.{eqb-false, lt-leb}
use Rattle.srecord.specs.Promises.{Marks, between, marked}

abbrev bit : ℕ → ℕ → ℕ
bit b k = b / 2 ^ k % 2

bit_suc : (b k : ℕ) → bit b (suc k) ≡ bit (b / 2) k
bit_suc b k = rw (pow-succ' 2 k, div-div-eq-div-mul b 2 (2 ^ k))

half : (b k : ℕ) → (b + 2 ^ suc k) / 2 ≡ b / 2 + 2 ^ k
half b k = omega arith

bit_set : (k b : ℕ) → bit b k ≡ 0 → bit (b + 2 ^ k) k ≡ 1
bit_set k b clear = rw (add-div_right b (pow_pos k)) (omega arith)

bit_kept : (k j b : ℕ) → bit b k ≡ 0 → (j ≡ k → ⊥) → bit (b + 2 ^ k) j ≡ bit b j
bit_kept zero zero b clear other = absurd (other refl)
bit_kept zero (suc j) b clear other =
    let same : (b + 1) / 2 ≡ b / 2 = omega arith in
    rw (bit_suc (b + 1) j, same, bit_suc b j)
bit_kept (suc k) zero b clear other = omega arith
bit_kept (suc k) (suc j) b clear other =
    rw (bit_suc (b + 2 ^ suc k) j, half, bit_suc b j)
    (bit_kept k j (b / 2) (sym (bit_suc b k) ∙ clear) (λ e. other (rw e)))

pub bit_fits : (k m b : ℕ) → k < m → b < 2 ^ m → bit b k ≡ 0 → b + 2 ^ k < 2 ^ m
bit_fits k zero b below small clear = omega arith
bit_fits zero (suc m) b below small clear = omega arith
bit_fits (suc k) (suc m) b below small clear =
    omega (arith, bit_fits k m (b / 2) (omega arith) (omega arith) (sym (bit_suc b k) ∙ clear))

-- The bit of a mark, set in a list of marks.
abbrev pub with_mark : List ℕ → ℕ → List ℕ
with_mark marks i = set marks (i / 8) (get_or marks (i / 8) 0 + 2 ^ (i % 8))

unmarked : (n : ℕ) → eqb (n % 2) 1 ≡ false → n % 2 ≡ 0
unmarked n failed = omega (arith, eqb-false (n % 2) 1 failed)

marks_one : (marks : List ℕ) (i : ℕ) → i / 8 < length marks → marked marks i ≡ false → marked (with_mark marks i) i ≡ true
unfolding marked
marks_one marks i inside clear =
    rw (get_or-set_same marks (i / 8) _ 0 inside, bit_set (i % 8) (get_or marks (i / 8) 0) (unmarked _ clear))

keeps_others :
    (marks : List ℕ) (i j : ℕ) → i / 8 < length marks → marked marks i ≡ false → (j ≡ i → ⊥) →
    marked (with_mark marks i) j ≡ marked marks j
unfolding marked
keeps_others marks i j inside clear other = go (eqb (j / 8) (i / 8)) refl
  where
    go : (same : Bool) → eqb (j / 8) (i / 8) ≡ same → marked (with_mark marks i) j ≡ marked marks j
    go true e =
        let here = eqb-true (j / 8) (i / 8) e in
        let elsewhere : j % 8 ≡ i % 8 → ⊥ = λ q. other (omega arith) in
        rw (here, get_or-set_same marks (i / 8) _ 0 inside, bit_kept (i % 8) (j % 8) _ (unmarked _ clear) elsewhere)
    go false e = rw (get_or-set_other marks (i / 8) (j / 8) _ 0 (eqb-false (j / 8) (i / 8) e))

marked_with_mark :
    (marks : List ℕ) (i j : ℕ) → i / 8 < length marks → marked marks i ≡ false →
    marked (with_mark marks i) j ≡ (marked marks j || eqb j i)
marked_with_mark marks i j inside clear = go (eqb j i) refl
  where
    go : (same : Bool) → eqb j i ≡ same → marked (with_mark marks i) j ≡ (marked marks j || same)
    go true e = rw (eqb-true j i e, marks_one marks i inside clear, or-true)
    go false e = rw (keeps_others marks i j inside clear (eqb-false j i e), or-false)

before_next : (j i : ℕ) → (j ≡ i → ⊥) → ltb j (i + 1) ≡ ltb j i
before_next j i other = go (ltb j i) refl
  where
    go : (less : Bool) → ltb j i ≡ less → ltb j (i + 1) ≡ less
    go true e = lt-ltb j (i + 1) (omega (arith, ltb-true j i e))
    go false e = le-ltb j (i + 1) (omega (arith, ltb-false j i e, other))

pub between_within : (low high i : ℕ) → low ≤ i → i < high → between low high i ≡ true
between_within low high i after before = rw (le-leb low i after, lt-ltb i high before)

pub between_none : (low high i : ℕ) → (low ≤ i → high ≤ i) → between low high i ≡ false
between_none low high i beyond = go (leb low i) refl
  where
    go : (inside : Bool) → leb low i ≡ inside → (inside && ltb i high) ≡ false
    go true e = le-ltb i high (beyond (leb-true low i e))
    go false e = refl

-- Up to the next one.
pub between_more : (low i : ℕ) → low ≤ i → (j : ℕ) → between low (i + 1) j ≡ (between low i j || eqb j i)
between_more low i after j = go (eqb j i) refl
  where
    go : (same : Bool) → eqb j i ≡ same → between low (i + 1) j ≡ (between low i j || same)
    go true e = rw (eqb-true j i e, le-leb low i after, lt-ltb i (i + 1) (omega arith), or-true)
    go false e = rw (before_next j i (eqb-false j i e), or-false)

-- Nothing asked for, nothing marked.
pub marks_nothing :
    (marks : List ℕ) (wanted : ℕ → Bool) → ((i : ℕ) → i < 229376 → wanted i ≡ false) → Marks marks wanted false marks
marks_nothing marks wanted none =
    record {
      taken = λ e. absurd (false≢true e);
      free = λ e i below w. absurd (false≢true (sym (none i below) ∙ w));
      now = λ e i below. rw (none i below, or-false);
    }

module _ {before after : List ℕ} {wanted : ℕ → Bool} where
  -- What is not asked for is as it was.
  as_before : Marks before wanted false after → (i : ℕ) → i < 229376 → wanted i ≡ false → marked before i ≡ marked after i
  as_before m i below new = sym (m.now refl i below ∙ rw (new, or-false))

  -- The same is asked for in other words.
  pub marks_like :
      {answer : Bool} (other : ℕ → Bool) → Marks before wanted answer after → ((i : ℕ) → i < 229376 → other i ≡ wanted i) →
      Marks before other answer after
  marks_like other m same =
      record {
        taken = λ e. let t = m.taken e in (t.0, t.1, same t.0 t.1 ∙ t.2, t.3);
        free = λ e i below w. m.free e i below (sym (same i below) ∙ w);
        now = λ e i below. rw (same i below) (m.now e i below);
      }

  -- One more is asked for, and is not marked yet.
  pub marks_more :
      (other : ℕ → Bool) (i : ℕ) → Marks before wanted false after → i / 8 < length after → wanted i ≡ false →
      marked after i ≡ false → ((j : ℕ) → other j ≡ (wanted j || eqb j i)) → Marks before other false (with_mark after i)
  marks_more other i m inside new clear more =
      record {
        taken = λ e. absurd (false≢true e);
        free = λ e j below w. free j below (eqb j i) refl (sym (more j) ∙ w);
        now = λ e j below. marked_with_mark after i j inside clear ∙ rw (m.now refl j below, more j, or_assoc);
      }
    where
      free : (j : ℕ) → j < 229376 → (same : Bool) → eqb j i ≡ same → (wanted j || same) ≡ true → marked before j ≡ false
      free j below true e w =
          let here = eqb-true j i e in
          rw here (as_before m i (rw (← here) below) new ∙ clear)
      free j below false e w = m.free refl j below (sym (or-false _) ∙ w)

  -- One more is asked for, and was marked before.
  pub marks_taken :
      (other : ℕ → Bool) (i : ℕ) → Marks before wanted false after → i < 229376 → wanted i ≡ false → other i ≡ true →
      marked after i ≡ true → Marks before other true after
  marks_taken other i m below new asked full =
      record {
        taken = λ e. (i, below, asked, as_before m i below new ∙ full);
        free = λ e. absurd (true≢false e);
        now = λ e. absurd (true≢false e);
      }

-- A test has the value of another that says the same.
same_test : (a b c d : ℕ) → (a ≤ b → c ≤ d) → (c ≤ d → a ≤ b) → leb a b ≡ leb c d
same_test a b c d to from = go (leb c d) refl
  where
    go : (test : Bool) → leb c d ≡ test → leb a b ≡ test
    go true e = le-leb a b (from (leb-true c d e))
    go false e =
        let not : a ≤ b → ⊥ = λ h. omega (arith, leb-false c d e, to h) in
        lt-leb a b (omega arith)

-- Addresses of a window at `low`, and their numbers in it.
pub window :
    (begin end low i from to : ℕ) → i < 229376 → from ≡ begin - low → to ≡ min (end - low) 229376 →
    between begin end (low + i) ≡ between from to i
window begin end low i from to below starts ends =
    rw (
      same_test begin (low + i) from i (λ h. omega arith) (λ h. omega arith),
      same_test (suc (low + i)) end (suc i) to (λ h. omega arith) (λ h. omega arith),
    )

-- A shifted 1, as the code makes it.
pub shifted : (k : ℕ) → k < 8 → 1 * 2 ^ k % 256 ≡ 2 ^ k
shifted k small =
    let below : 2 ^ k < 256 = lt_of_le_of_lt (pow-le-pow_right {n = 2} (omega arith) {i = k} {j = 7} (omega arith)) (omega arith) in
    rw (one-mul, mod-eq_of_lt below)
