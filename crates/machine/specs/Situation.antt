-- The machine over its memory, and the numbers of the reasons for which it stops: document 01, "State" and "Exceptions".
use Rattle.std.specs.Prelude.{ℕ, cond, List, ◌==◌}
use Rattle.instructions.specs.State.{State}
use Rattle.machine.specs.declared.Machine.{Machine}
use Rattle.machine.specs.declared.Mode.{Mode}
use Rattle.machine.specs.declared.Mode.TheVariants.{Stopped}
use Rattle.machine.specs.declared.Stop.{Stop}
use Rattle.machine.specs.declared.Stop.TheVariants.{Push, Vector, Branch}

pub record Situation : Type 0 where
  pub state : State
  pub mode : Mode

abbrev pub at : Mode → State → Situation
at mode s = record { state = s; mode = mode }

-- A machine over a memory, and back.
abbrev pub over : Machine → List ℕ → Situation
over m memory = at m.mode (record { registers = m.r; control = m.control; memory = memory })

abbrev pub machine_of : Situation → Machine
machine_of x = record { r = x.state.registers; control = x.state.control; mode = x.mode }

-- Document 01's number of a stop reason, and the reason of a number.
abbrev pub reason_number : Stop → ℕ
reason_number Push = 1
reason_number Vector = 2
reason_number Branch = 3

abbrev reason_of : ℕ → Stop
reason_of number = cond (number == reason_number Push) Push (cond (number == reason_number Vector) Vector Branch)

abbrev pub stopped : ℕ → Mode
stopped number = Stopped (reason_of number)
