-- A run: document 01, "Run". It takes exactly its budget of steps, fewer only when the machine sleeps or stops.
use Rattle.std.specs.Prelude.{ℕ, zero, suc, cond}
use Rattle.machine.specs.Situation.{Situation}
use Rattle.machine.specs.Step.{halted, step}

pub record Ran : Type 0 where
  pub after : Situation
  pub steps : ℕ

abbrev pub still : Situation → Ran
still x = record { after = x; steps = 0 }

-- What follows, with one more step before it.
abbrev pub one_more : Ran → Ran
one_more later = record { after = later.after; steps = suc later.steps }

-- A step, and whether it counts.
abbrev pub stepped : Situation → Ran
stepped x = record { after = step x; steps = cond (halted x) 0 1 }

unfoldable pub run : ℕ → Situation → Ran
run zero x = still x
run (suc budget) x = cond (halted x) (still x) (one_more (run budget (step x)))
