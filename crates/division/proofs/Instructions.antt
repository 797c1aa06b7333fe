-- The three instructions of the sequence: what a step at each makes of a place within the sequence.
-- Assumes nothing.
use mathlib.Core.Path.{◌≡◌, refl, sym}
use mathlib.Core.List.{List}
use Prim.Native.Nat.{ℕ, ◌+◌, ◌%◌, ◌^◌, ◌≤◌, ◌<◌}
use native.Mathlib.Omega.{arith}
use borrow.Author.Tests.{eq-eqb, le-leb}
use lib.ListN.{length}
use Rattle.std.specs.Prelude.{Some}
use Rattle.numbers.specs.Numbers.{low32}
use Rattle.arithmetic.specs.Addresses.{following}
use Rattle.memory.specs.Access.{accessible, value_at, loaded}
use Rattle.decoder.specs.Code.{meaning, among}
use Rattle.decoder.specs.Table.{table}
use Rattle.decoder.specs.declared.meaning.Meaning.{Meaning}
use Rattle.decoder.specs.declared.meaning.Meaning.TheVariants.{NoOperand, OneRegister, Divide}
use Rattle.decoder.specs.declared.meaning.NoOperand.TheVariants.{Div0u}
use Rattle.decoder.specs.declared.meaning.OneRegister.TheVariants.{Rotcl}
use Rattle.decoder.specs.declared.meaning.Divide.TheVariants.{Div1}
use Rattle.decoder.proofs.Arms.{arm}
use Rattle.divide.specs.Divide as divide
use Rattle.shifts.specs.Shifts as shifts
use Rattle.instructions.specs.State.{State, changed, with_pc, with_sr}
use Rattle.instructions.specs.Shapes.{next}
use Rattle.instructions.specs.Execute.{attempted, execute}
use Rattle.machine.specs.declared.Machine.{Machine}
use Rattle.machine.specs.declared.Mode.TheVariants.{Running}
use Rattle.machine.specs.Situation.{Situation, at, over}
use Rattle.machine.specs.Step.{step}
use Rattle.machine.proofs.Calling.{memory_accepted}
use Rattle.memory.proofs.Acceptance.{accepted_size}
use Rattle.division.specs.Division.{div0u_code, rotcl_code, div1_code, Premises, Values, values}
use Rattle.division.proofs.Steps.{div1_q_bit, div1_t_bit}
use Rattle.division.proofs.Status.{status, reads_t, reads_q, reads_m, writes_t, writes_qt}
use Rattle.division.proofs.Registers.{registers, reads_low, reads_high, reads_divisor, writes_low, writes_high, unwritten}

means_div0u : meaning div0u_code ≡ NoOperand Div0u
unfolding meaning among table
means_div0u = refl

means_rotcl : (n : ℕ) → n < 16 → meaning (rotcl_code n) ≡ OneRegister Rotcl n
unfolding among table
means_rotcl n small =
    sym (arm {t = 4} {s = n} {h = 2} {l = 4} (rotcl_code n) (omega arith) (omega arith) (omega arith) (omega arith) refl)

means_div1 : (m n : ℕ) → m < 16 → n < 16 → meaning (div1_code m n) ≡ Divide Div1 m n
unfolding among table
means_div1 m n small small' =
    sym (arm {t = 3} {s = n} {h = m} {l = 4} (div1_code m n) (omega arith) (omega arith) (omega arith) (omega arith) refl)

fetches :
    (memory : List ℕ) (address w : ℕ) → address % 2 ≡ 0 → address + 2 ≤ length memory → value_at 2 memory address ≡ w →
    loaded 2 memory address ≡ Some w
unfolding loaded accessible
fetches memory address w even inside stands =
    rw (eq-eqb (address % 2) 0 even, le-leb (address + 2) (length memory) inside, stands)

-- The step of any instruction that leads on to the next.
steps_on :
    (s after : State) (w : ℕ) (x : Meaning) (pc : ℕ) → loaded 2 s.memory s.control.pc ≡ Some w → meaning w ≡ x →
    execute x (following s.control.pc) s ≡ next after → low32 (s.control.pc + 2) ≡ pc →
    step (at Running s) ≡ at Running (changed (with_pc pc) after)
unfolding step attempted
steps_on s after w x pc fetched means gives moves = rw (fetched, means, gives, moves)

-- A place within the sequence: the PC, the numbers in low and high, Q and T. All else is as before the sequence, but M is clear.
pub record Place : Type 0 where
  pub pc : ℕ
  pub low : ℕ
  pub high : ℕ
  pub q : ℕ
  pub t : ℕ

abbrev pub after_rotcl : Place → Place
after_rotcl x =
    let r = shifts.rotcl x.low x.t in
    record { pc = x.pc + 2; low = r.value; high = x.high; q = x.q; t = r.t }

abbrev pub after_div1 : ℕ → Place → Place
after_div1 d x =
    let r = divide.div1 d x.high 0 x.q x.t in
    record { pc = x.pc + 2; low = x.low; high = r.value; q = r.q; t = r.t }

module _ {low high divisor : ℕ} {m : Machine} {memory : List ℕ} (p : Premises low high divisor m memory) where
  abbrev pub before : Values
  before = values low high divisor (over m memory).state

  abbrev pub state : Place → State
  state x =
      record {
        registers = registers p x.low x.high;
        control = with_pc x.pc (with_sr (status m.control.sr x.q x.t) m.control);
        memory = memory;
      }

  abbrev pub here : Place → Situation
  here x = at Running (state x)

  pub record Sound (x : Place) : Type 0 where
    pub even : x.pc % 2 ≡ 0
    pub inside : x.pc + 2 ≤ length memory
    pub low_long : x.low < 2 ^ 32
    pub high_long : x.high < 2 ^ 32
    pub q_bit : x.q < 2
    pub t_bit : x.t < 2

  next_pc : (pc : ℕ) → pc + 2 ≤ length memory → low32 (pc + 2) ≡ pc + 2
  next_pc pc inside =
      omega (arith, (accepted_size (length memory) (memory_accepted m memory p.accepted)).1)

  -- DIV0U leads from the machine as it was to the first place.
  abbrev pub first : Place
  first = record { pc = m.control.pc + 2; low = before.low; high = before.high; q = 0; t = 0 }

  pub div0u_step : step (at Running (over m memory).state) ≡ here first
  unfolding execute
  div0u_step =
      let inside : m.control.pc + 2 ≤ length memory = omega (arith, p.inside) in
      steps_on (over m memory).state
      (state (record { pc = m.control.pc; low = before.low; high = before.high; q = 0; t = 0 })) div0u_code (NoOperand Div0u)
      (m.control.pc + 2) (fetches memory m.control.pc div0u_code p.even inside p.words.0) means_div0u (rw (unwritten p))
      (next_pc m.control.pc inside)

  module _ (x : Place) (sound : Sound x) where
    -- The effect of an instruction leaves the PC alone.
    abbrev stay : Place → Place
    stay after = record { pc = x.pc; low = after.low; high = after.high; q = after.q; t = after.t }

    abbrev sr : ℕ
    sr = m.control.sr

    pub rotcl_step : value_at 2 memory x.pc ≡ rotcl_code low → step (here x) ≡ here (after_rotcl x)
    unfolding execute
    rotcl_step stands =
        let after = after_rotcl x in
        steps_on (state x) (state (stay after)) (rotcl_code low) (OneRegister Rotcl low) (x.pc + 2)
        (fetches memory x.pc (rotcl_code low) sound.even sound.inside stands) (means_rotcl low p.low_number)
        (rw (
          reads_low p x.low x.high,
          reads_t sr x.q x.t sound.q_bit sound.t_bit,
          writes_low p x.low x.high after.low,
          writes_t sr x.q x.t sound.q_bit sound.t_bit after.t (omega (arith, sound.low_long)),
        ))
        (next_pc x.pc sound.inside)

    pub div1_step : value_at 2 memory x.pc ≡ div1_code divisor high → step (here x) ≡ here (after_div1 before.divisor x)
    unfolding execute
    div1_step stands =
        let after = after_div1 before.divisor x in
        steps_on (state x) (state (stay after)) (div1_code divisor high) (Divide Div1 divisor high) (x.pc + 2)
        (fetches memory x.pc (div1_code divisor high) sound.even sound.inside stands)
        (means_div1 divisor high p.divisor_number p.high_number)
        (rw (
          reads_high p x.low x.high,
          reads_divisor p x.low x.high,
          reads_m sr x.q x.t sound.q_bit sound.t_bit,
          reads_q sr x.q x.t sound.q_bit sound.t_bit,
          reads_t sr x.q x.t sound.q_bit sound.t_bit,
          writes_high p x.low x.high after.high,
          writes_qt sr x.q x.t sound.q_bit sound.t_bit after.q after.t
              (div1_q_bit before.divisor x.high x.q x.t sound.high_long)
              (div1_t_bit before.divisor x.high x.q x.t),
        ))
        (next_pc x.pc sound.inside)
