-- The registers within the sequence: low and high written and read, every other one as before.
-- Assumes nothing.
use mathlib.Core.Path.{◌≡◌, sym, ◌∙◌, ap}
use mathlib.Core.List.{List}
use Prim.Native.Nat.{ℕ, ◌%◌, ◌<◌}
use native.Mathlib.Nat.{mod-eq_of_lt}
use native.Mathlib.Omega.{arith}
use lib.ListN.{length, get_or, set, length-set}
use lib.Seq.{get_or-set_same, get_or-set_other, set-get_or, set-set, set_comm}
use Rattle.machine.specs.declared.Machine.{Machine}
use Rattle.division.specs.Division.{Premises}

module _ {low high divisor : ℕ} {m : Machine} {memory : List ℕ} (p : Premises low high divisor m memory) where
  abbrev pub registers : ℕ → ℕ → List ℕ
  registers l h = set (set m.r low l) high h

  pub length_registers : (l h : ℕ) → length (registers l h) ≡ 16
  length_registers l h = simp length-set p.sixteen

  pub reads_low : (l h : ℕ) → get_or (registers l h) (low % 16) 0 ≡ l
  reads_low l h =
      rw (mod-eq_of_lt p.low_number)
      (get_or-set_other (set m.r low l) high low h 0 p.low_high
      ∙ get_or-set_same m.r low l 0 (omega (arith, p.sixteen, p.low_number)))

  pub reads_high : (l h : ℕ) → get_or (registers l h) (high % 16) 0 ≡ h
  reads_high l h =
      rw (mod-eq_of_lt p.high_number)
      (get_or-set_same (set m.r low l) high h 0 (omega (arith, length-set m.r low l, p.sixteen, p.high_number)))

  pub reads_other :
      (l h n : ℕ) → n < 16 → (n ≡ low → ⊥) → (n ≡ high → ⊥) → get_or (registers l h) (n % 16) 0 ≡ get_or m.r (n % 16) 0
  reads_other l h n number not_low not-high =
      rw (mod-eq_of_lt number)
      (get_or-set_other (set m.r low l) high n h 0 not-high ∙ get_or-set_other m.r low n l 0 not_low)

  pub reads_divisor : (l h : ℕ) → get_or (registers l h) (divisor % 16) 0 ≡ get_or m.r (divisor % 16) 0
  reads_divisor l h =
      reads_other l h divisor p.divisor_number (λ same. p.low_divisor (sym same)) (λ same. p.high_divisor (sym same))

  pub writes_low : (l h new : ℕ) → set (registers l h) (low % 16) new ≡ registers new h
  writes_low l h new =
      rw (mod-eq_of_lt p.low_number)
      (set_comm (set m.r low l) high low h new (λ same. p.low_high (sym same))
      ∙ ap (λ x. set x high h) (set-set m.r low l new))

  pub writes_high : (l h new : ℕ) → set (registers l h) (high % 16) new ≡ registers l new
  writes_high l h new = rw (mod-eq_of_lt p.high_number) (set-set (set m.r low l) high h new)

  -- Before the sequence low and high hold what they hold.
  pub unwritten : registers (get_or m.r (low % 16) 0) (get_or m.r (high % 16) 0) ≡ m.r
  unwritten =
      rw (mod-eq_of_lt p.low_number, mod-eq_of_lt p.high_number, set-get_or m.r low 0, set-get_or m.r high 0)
