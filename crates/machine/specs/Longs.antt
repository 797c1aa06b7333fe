-- A machine as numbers, for what writes and reads one: document 02, request Eleven.
use Rattle.std.specs.Prelude.{ℕ, List, [], ◌∷◌, ◌++◌}
use Rattle.machine.specs.declared.Machine.{Machine}
use Rattle.machine.specs.declared.Mode.{Mode}
use Rattle.machine.specs.declared.Mode.TheVariants.{Running, Slot, Asleep, Stopped}
use Rattle.machine.specs.Situation.{reason_number}

-- "23 longs (R0 to R15, PC, SR, GBR, VBR, PR, MACH, MACL)"
abbrev pub longs : Machine → List ℕ
longs m =
    let c = m.control in
    m.r ++ (c.pc ∷ c.sr ∷ c.gbr ∷ c.vbr ∷ c.pr ∷ c.mach ∷ c.macl ∷ [])

-- "mode (0 running, 1 slot, 2 asleep, 3 stopped), its target or reason or 0"
abbrev pub mode_number : Mode → ℕ
mode_number Running = 0
mode_number (Slot target) = 1
mode_number Asleep = 2
mode_number (Stopped reason) = 3

abbrev pub mode_value : Mode → ℕ
mode_value Running = 0
mode_value (Slot target) = target
mode_value Asleep = 0
mode_value (Stopped reason) = reason_number reason
