-- The division theorem: the walk ends with the quotient in low and the remainder in high and Q, and may be cut anywhere.
-- Assumes nothing.
use mathlib.Core.Path.{refl, sym, subst}
use mathlib.Core.List.{List}
use Prim.Native.Nat.{ℕ, ◌+◌, ◌%◌, ◌^◌, ◌<◌}
use native.Mathlib.Omega.{arith}
use Rattle.machine.specs.declared.Machine.{Machine}
use Rattle.machine.specs.Situation.{Situation, over}
use Rattle.machine.specs.Run.{run}
use Rattle.machine.proofs.Calling.{mask_passed}
use Rattle.division.specs.Division.{Premises, Completed, Values, values, Conclusion, RunsDivide, CallsDivide}
use Rattle.division.proofs.Steps.{Steps, in_range}
use Rattle.division.proofs.Results.{divides, complements}
use Rattle.division.proofs.Status.{keeps_s, keeps_i, reads_t, reads_q, reads_m, keeps_mask}
use Rattle.division.proofs.Registers.{length_registers, reads_low, reads_high, reads_other}
use Rattle.division.proofs.Instructions.{Place, before, state, here}
use Rattle.division.proofs.Through.{runs_sum, ends, calls_are_runs}
use Rattle.division.proofs.Walk.{AtEnd, through}

module _ {low high divisor : ℕ} {m : Machine} {memory : List ℕ} (p : Premises low high divisor m memory) where
  module _
      (answers value q : ℕ)
      (steps : Steps (before p).divisor (before p).high (2 ^ 32) (before p).low answers value q) where
    abbrev end : Place
    end = record { pc = m.control.pc + 132; low = answers; high = value; q = q; t = 0 }

    q_bit : q < 2
    q_bit = (in_range (p.long (high % 16)) steps).bit

    completed : Completed low high (over m memory) (here p end) 66
    completed =
        let sr = m.control.sr in
        record {
          counted = refl;
          pc = refl;
          running = refl;
          memory = refl;
          s = keeps_s sr q;
          i = keeps_i sr q;
          others = reads_other p answers value;
          sixteen = length_registers p answers value;
          gbr = refl;
          vbr = refl;
          pr = refl;
          mach = refl;
          macl = refl;
          m = reads_m sr q 0 q_bit (omega arith);
          t = reads_t sr q 0 q_bit (omega arith);
          mask = keeps_mask sr q 0 q_bit (omega arith) (mask_passed m memory p.accepted);
        }

    abbrev after : Values
    after = values low high divisor (state p end)

    taken : Steps (before p).divisor (before p).high (2 ^ 32) (before p).low after.low after.high after.q
    taken =
        rw (reads_low p answers value, reads_high p answers value, reads_q m.control.sr q 0 q_bit (omega arith)) steps

    concluded : Conclusion low high divisor (over m memory) (here p end) 66
    concluded =
        record {
          completed = completed;
          divided = λ below. divides (before p) after (p.long (divisor % 16)) below taken;
          complemented = λ zero-divisor. complements (before p) after (p.long (high % 16)) zero-divisor taken;
        }

  at_end : (x : Situation) → AtEnd p x → Conclusion low high divisor (over m memory) x 66
  at_end x end =
      subst (λ (y : Situation). Conclusion low high divisor (over m memory) y 66) (sym end.ended)
      (concluded end.answers end.value end.q end.steps)

  -- The run of 66, uncut.
  run_divides : Conclusion low high divisor (over m memory) (run 66 (over m memory)).after (run 66 (over m memory)).steps
  run_divides =
      let end = ends (AtEnd p) 66 (over m memory) (through p) in
      rw end.0 (at_end (run 66 (over m memory)).after end.1)

pub runs_divide : RunsDivide
runs_divide low high divisor m memory p budgets whole = rw (runs_sum budgets (over m memory), whole) (run_divides p)

pub calls_divide : CallsDivide
calls_divide low high divisor m memory p budgets whole =
    rw (calls_are_runs (AtEnd p) budgets (over m memory) (rw whole (through p)))
    (refl, runs_divide low high divisor m memory p budgets whole)
