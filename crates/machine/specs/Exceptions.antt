-- The entry of an exception: document 01, "Exceptions".
use Rattle.std.specs.Prelude.{ℕ, ◌+◌, ◌*◌, Bool, cond, not, ◌||◌, List, [], ◌∷◌, ◌==◌}
use Rattle.numbers.specs.Numbers.{low32}
use Rattle.memory.specs.Access.{accessible, value_at, written}
use Rattle.memory.specs.Lengths.{Test, first, test}
use Rattle.instructions.specs.State.{State, reg, with_reg, with_memory, changed, with_pc, with_sr}
use Rattle.instructions.specs.Shapes.{minus}
use Rattle.machine.specs.declared.Mode.{Mode}
use Rattle.machine.specs.declared.Mode.TheVariants.{Running, Slot, Asleep, Stopped}
use Rattle.machine.specs.Situation.{Situation, at, stopped}

-- In a slot the target.
abbrev pub target_or : Mode → ℕ → ℕ
target_or (Slot target) other = target
target_or Running other = other
target_or Asleep other = other
target_or (Stopped reason) other = other

-- "Saved PC: in a slot, always the target."
abbrev pub saved_pc : Mode → ℕ → ℕ
saved_pc mode other = target_or mode other

-- R15-4 and R15-8
abbrev pub below_r15 : ℕ → State → ℕ
below_r15 k s = minus (reg 15 s) k

-- "VBR + 4 x number"
abbrev pub vector : ℕ → State → ℕ
vector number s = low32 (s.control.vbr + 4 * number)

-- "SR goes to R15-4, the saved PC to R15-8"
abbrev pub pushed : ℕ → State → List ℕ
pushed saved s = written 4 (written 4 s.memory (below_r15 4 s) s.control.sr) (below_r15 8 s) saved

-- "R15 falls by 8, then PC becomes the long at VBR + 4 x number (read after the two stores), and the mode is running."; sr is what SR
-- then is.
abbrev pub entered : ℕ → ℕ → ℕ → State → Situation
entered number saved sr s =
    at Running
    (changed (λ c. with_sr sr (with_pc (value_at 4 (pushed saved s) (vector number s)) c))
    (with_memory (pushed saved s) (with_reg 15 (below_r15 8 s) s)))

-- A long at the address would be misaligned or outside.
abbrev fails : State → ℕ → Bool
fails s address = not (accessible 4 s.memory address)

-- "reason 1: R15 is not a multiple of 4, or a store would fall outside; else reason 2: the vector's address is misaligned or outside"
abbrev pub entry_tests : ℕ → State → List Test
entry_tests number s = test 1 (fails s (below_r15 4 s) || fails s (below_r15 8 s)) ∷ test 2 (fails s (vector number s)) ∷ []

-- "The machine stops, with memory and registers as before the step"
unfoldable pub enter : ℕ → ℕ → ℕ → State → Situation
enter number saved sr s =
    let reason = first (entry_tests number s) in
    cond (reason == 0) (entered number saved sr s) (at (stopped reason) s)

-- "SR keeps its value."
abbrev pub raise : ℕ → ℕ → State → Situation
raise number saved s = enter number saved s.control.sr s

-- The vector numbers.
abbrev pub general_illegal : ℕ
general_illegal = 4

abbrev pub illegal_slot : ℕ
illegal_slot = 6

abbrev pub address_error : ℕ
address_error = 9
