-- The premises of the division theorem hold of a machine and a memory written out, whatever the three numbers; and what the theorem then
-- says of document 01's 0:100 / 7 and 0:100 / 0.
-- Assumes nothing.
use mathlib.Core.Path.{◌≡◌, refl, ap}
use mathlib.Core.Bool.{Bool, true, ◌&&◌}
use mathlib.Core.List.{List, [], ◌∷◌, ◌++◌}
use Prim.Native.Nat.{ℕ, zero, suc, ◌+◌, ◌/◌, ◌%◌, ◌^◌, ◌<◌}
use native.Mathlib.Omega.{arith}
use lib.Dec.{T, eqb, eqb→eq, lit<, lit≤}
use lib.ListN.{length, get_or, replicate}
use Rattle.memory.specs.Access.{value_at}
use Rattle.decoder.proofs.Conjunction.{left, right}
use Rattle.instructions.specs.State.{control, reg, q_bit}
use Rattle.machine.specs.declared.Machine.{Machine}
use Rattle.machine.specs.declared.Mode.TheVariants.{Running}
use Rattle.machine.specs.Situation.{over}
use Rattle.division.specs.Division.{sequence, Words, Premises, runs}
use Rattle.division.proofs.Division.{runs_divide}

pub sixty_six : (low high divisor : ℕ) → length (sequence low high divisor) ≡ 66
sixty_six low high divisor = refl

-- low is R1, high R2 and the divisor R3; the sequence stands at H'200 of 1,024 bytes.
bytes : List ℕ → List ℕ
bytes [] = []
bytes (w ∷ rest) = w / 256 ∷ w % 256 ∷ bytes rest

memory : List ℕ
memory = replicate 512 0 ++ bytes (sequence 1 2 3) ++ replicate 380 0

machine : ℕ → ℕ → ℕ → Machine
machine low high divisor =
    record { r = 0 ∷ low ∷ high ∷ divisor ∷ replicate 12 0; control = control 0x200 0xf0 0 0 0 0 0; mode = Running }

-- Words, as one computed test.
standing : List ℕ → ℕ → List ℕ → Bool
standing held address [] = true
standing held address (w ∷ rest) = eqb (value_at 2 held address) w && standing held (address + 2) rest

stand : (held : List ℕ) (address : ℕ) (words : List ℕ) → T (standing held address words) → Words held address words
unfolding standing
stand held address [] t = tt
stand held address (w ∷ rest) t = (
  eqb→eq (value_at 2 held address) w (left (eqb (value_at 2 held address) w) _ t),
  stand held (address + 2) rest (right (eqb (value_at 2 held address) w) _ t),
)

zeros : (n i : ℕ) → ◌≡◌ {A = ℕ} (get_or (replicate n 0) i 0) 0
zeros zero i = refl
zeros (suc n) zero = refl
zeros (suc n) (suc i) = zeros n i

premises :
    (low high divisor : ℕ) → low < 2 ^ 32 → high < 2 ^ 32 → divisor < 2 ^ 32 → Premises 1 2 3 (machine low high divisor) memory
unfolding machine memory bytes standing value_at
premises low high divisor low_long high_long divisor-long =
    record {
      running = refl;
      even = refl;
      inside = lit≤ tt;
      words = stand memory 0x200 (sequence 1 2 3) tt;
      low_number = lit< tt;
      high_number = lit< tt;
      divisor_number = lit< tt;
      low_high = λ same. omega arith;
      low_divisor = λ same. omega arith;
      high_divisor = λ same. omega arith;
      accepted = refl;
      sixteen = refl;
      long = long;
    }
  where
    long : (n : ℕ) → get_or (0 ∷ low ∷ high ∷ divisor ∷ replicate 12 0) n 0 < 2 ^ 32
    long zero = lit< tt
    long (suc zero) = low_long
    long (suc (suc zero)) = high_long
    long (suc (suc (suc zero))) = divisor-long
    long (suc (suc (suc (suc n)))) = rw (zeros 12 n) (lit< tt)

-- Document 01: "0:100 / 7 gives 14, H'FFFFFFFB, 1", and "0:100 / 0 gives H'FFFFFFFF, 100, 0", in runs of 0, 1, 64 and 1 steps.
abbrev cuts : List ℕ
cuts = 0 ∷ 1 ∷ 64 ∷ 1 ∷ []

by_7 :
    let end = (runs cuts (over (machine 100 0 7) memory)).after.state in
    (reg 1 end ≡ 14) × (reg 2 end ≡ 0xffff_fffb) × (q_bit end ≡ 1)
unfolding machine
by_7 =
    let given = premises 100 0 7 (lit< tt) (lit< tt) (lit< tt) in
    let result = (runs_divide 1 2 3 (machine 100 0 7) memory given cuts refl).divided (lit< tt) in
    let even = ap (λ y. y % 2) result.quotient in
    (result.quotient, result.even_high even, result.even_q even)

by_0 :
    let end = (runs cuts (over (machine 100 0 0) memory)).after.state in
    (reg 1 end ≡ 0xffff_ffff) × (reg 2 end ≡ 100) × (q_bit end ≡ 0)
unfolding machine
by_0 =
    let given = premises 100 0 0 (lit< tt) (lit< tt) (lit< tt) in
    let result = (runs_divide 1 2 3 (machine 100 0 0) memory given cuts refl).complemented refl in
    (result.low, result.high, result.q)
