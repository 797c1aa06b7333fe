-- What ROTCL makes of the low half: a bit still to come leaves at the top, and the answer in T enters at the bottom.
-- Assumes nothing; no machine is named.
use mathlib.Core.Path.{◌≡◌, refl, sym, ◌∙◌, ap}
use mathlib.Core.Bool.{Bool, true, false}
use Prim.Native.Nat.{ℕ, suc, ◌+◌, ◌*◌, ◌-◌, ◌/◌, ◌^◌, ◌≤◌, ◌<◌}
use native.Mathlib.Nat.{mul-add, add-mul, mul_comm, mul-le-mul_right}
use native.Mathlib.Omega.{arith}
use borrow.Author.Tests.{ltb-true, ltb-false}
use lib.Dec.{ltb}
use Rattle.numbers.specs.Numbers.{low32}

-- n bits of x are still to come. c is 2 to the number of bits taken, which make the number taken; l and t are Rn and T: the bits to come,
-- above a 0 and all the answers, the last of them in T.
pub record LowHalf (x n c taken answers l t : ℕ) : Type 0 where
  pub rest : ℕ
  pub below : rest < 2 ^ n
  pub parts : taken * 2 ^ n + rest ≡ x
  pub full : c * 2 ^ n ≡ 2 ^ 32
  pub holds : l * 2 + t ≡ rest * (c + c) + answers
  pub bit : t < 2

pub start : (x : ℕ) → x < 2 ^ 32 → LowHalf x 32 1 0 0 x 0
start x small =
    record {
      rest = x;
      below = small;
      parts = omega arith;
      full = refl;
      holds = omega arith;
      bit = omega arith;
    }

-- ROTCL of l with t, from the 33 bits that they make.
rotated : (l t top e : ℕ) → t < 2 → e < 2 ^ 32 → l * 2 + t ≡ top * 2 ^ 32 + e → (low32 (l * 2 + t) ≡ e) × (l / 2 ^ 31 ≡ top)
rotated l t top e bit small parts = (omega arith, omega arith)

-- The room that rest, below h, has with the answers behind it.
room : (c h rest answers : ℕ) → answers < c → h * c ≡ 2 ^ 31 → rest < h → rest * (c + c) + answers < 2 ^ 32
room c h rest answers lower half below =
    omega (arith, mul-le-mul_right {m = rest + 1} {n = h} c (omega arith), add-mul rest 1 c, mul-add rest c c)

module _ {x n c taken answers l t : ℕ} (lower : answers < c) (before : LowHalf x (suc n) c taken answers l t) where
  two : 2 ^ suc n ≡ 2 ^ n + 2 ^ n
  two = omega arith

  half : 2 ^ n * c ≡ 2 ^ 31
  half =
      let whole : c * (2 ^ n + 2 ^ n) ≡ 2 ^ 32 = sym (ap (λ y. c * y) two) ∙ before.full in
      omega (arith, mul-add c (2 ^ n) (2 ^ n), mul_comm (2 ^ n) c)

  parts : taken * 2 ^ n + taken * 2 ^ n + before.rest ≡ x
  parts = omega (arith, before.parts, ap (λ y. taken * y) two, mul-add taken (2 ^ n) (2 ^ n))

  full : (c + c) * 2 ^ n ≡ 2 ^ 32
  full = omega (arith, half, add-mul c c (2 ^ n), mul_comm (2 ^ n) c)

  -- The next bit to come, and those behind it.
  record Next : Type 0 where
    top : ℕ
    rest : ℕ
    bit : top < 2
    below : rest < 2 ^ n
    parts : (taken + taken + top) * 2 ^ n + rest ≡ x
    holds : l * 2 + t ≡ top * 2 ^ 32 + (rest * (c + c) + answers)

  next : Next
  next = go (ltb before.rest (2 ^ n)) refl
    where
      go : (s : Bool) → ltb before.rest (2 ^ n) ≡ s → Next
      go true e =
          record {
            top = 0;
            rest = before.rest;
            bit = omega arith;
            below = ltb-true before.rest (2 ^ n) e;
            parts = omega (arith, parts, add-mul taken taken (2 ^ n), add-mul (taken + taken) 0 (2 ^ n));
            holds = before.holds ∙ omega arith;
          }
      go false e =
          let leaves : 2 ^ n ≤ before.rest = ltb-false before.rest (2 ^ n) e in
          let sum : before.rest ≡ before.rest - 2 ^ n + 2 ^ n = omega arith in
          record {
            top = 1;
            rest = before.rest - 2 ^ n;
            bit = omega arith;
            below = omega (arith, before.below);
            parts = omega (arith, parts, add-mul taken taken (2 ^ n), add-mul (taken + taken) 1 (2 ^ n));
            holds =
                before.holds
                ∙ ap (λ y. y * (c + c) + answers) sum
                ∙ omega (arith, add-mul (before.rest - 2 ^ n) (2 ^ n) (c + c), mul-add (2 ^ n) c c, half);
          }

  leaving : (low32 (l * 2 + t) ≡ next.rest * (c + c) + answers) × (l / 2 ^ 31 ≡ next.top)
  leaving =
      rotated l t next.top (next.rest * (c + c) + answers) before.bit (room c (2 ^ n) next.rest answers lower half next.below)
      next.holds

  pub long : l < 2 ^ 32
  long = omega (arith, leaving.1, next.bit)

  -- One ROTCL, after which DIV1 leaves a new answer in T.
  pub moved :
      (answer : ℕ) → answer < 2 →
      LowHalf x n (c + c) (taken + taken + l / 2 ^ 31) (answers + answers + answer) (low32 (l * 2 + t)) answer
  moved answer bit =
      rw (leaving.0, leaving.1)
      (record {
        rest = next.rest;
        below = next.below;
        parts = next.parts;
        full = full;
        holds = omega (arith, mul-add next.rest (c + c) (c + c));
        bit = bit;
      })

-- The last ROTCL: all answers stand in Rn, and T takes the 0 above them.
module _ {x c taken answers l t : ℕ} (lower : answers < c) (before : LowHalf x 0 c taken answers l t) where
  pub all_done : c ≡ 2 ^ 32
  all_done = omega (arith, before.full)

  pub all_taken : taken ≡ x
  all_taken = omega (arith, before.parts, before.below)

  gone : l * 2 + t ≡ answers
  gone =
      let none : before.rest ≡ 0 = omega (arith, before.below) in
      before.holds ∙ ap (λ y. y * (c + c) + answers) none ∙ omega arith

  pub last_long : l < 2 ^ 32
  last_long = omega (arith, gone, all_done)

  pub last_value : low32 (l * 2 + t) ≡ answers
  last_value = omega (arith, gone, all_done)

  pub last_t : l / 2 ^ 31 ≡ 0
  last_t = omega (arith, gone, all_done)
