-- The 23 longs and the mode's two numbers tell the machine: it can be read back from them.
-- Assumes nothing.
use Rattle.std.proofs.Common.{◌≡◌, ℕ, cond, eqb, List, length, get_or, take, drop, sym, refl, ◌∙◌, take_at, drop_at}
use Rattle.instructions.specs.State.{control}
use Rattle.machine.specs.Longs.{longs, mode_number, mode_value}
use Rattle.machine.specs.Situation.{stopped}
use Rattle.machine.specs.declared.Machine.{Machine}
use Rattle.machine.specs.declared.Mode.{Mode}
use Rattle.machine.specs.declared.Mode.TheVariants.{Running, Slot, Asleep, Stopped}
use Rattle.machine.specs.declared.Stop.TheVariants.{Push, Vector, Branch}

mode_of : ℕ → ℕ → Mode
mode_of number value =
    cond (eqb number 0) Running (cond (eqb number 1) (Slot value) (cond (eqb number 2) Asleep (stopped value)))

mode_read : (mode : Mode) → mode_of (mode_number mode) (mode_value mode) ≡ mode
unfolding mode_of
mode_read Running = refl
mode_read (Slot target) = refl
mode_read Asleep = refl
mode_read (Stopped Push) = refl
mode_read (Stopped Vector) = refl
mode_read (Stopped Branch) = refl

machine_back : List ℕ → ℕ → ℕ → Machine
machine_back l number value =
    let c = drop 16 l in
    record {
      r = take 16 l;
      control = control (get_or c 0 0) (get_or c 1 0) (get_or c 2 0) (get_or c 3 0) (get_or c 4 0) (get_or c 5 0) (get_or c 6 0);
      mode = mode_of number value;
    }

read_back : (m : Machine) → length m.r ≡ 16 → machine_back (longs m) (mode_number m.mode) (mode_value m.mode) ≡ m
unfolding machine_back
read_back m sixteen = rw (take_at m.r _ 16 sixteen, drop_at m.r _ 16 sixteen, mode_read m.mode)

pub numbers_tell :
    (m n : Machine) → length m.r ≡ 16 → length n.r ≡ 16 → longs m ≡ longs n →
    mode_number m.mode ≡ mode_number n.mode → mode_value m.mode ≡ mode_value n.mode → m ≡ n
numbers_tell m n sixteen sixteen' same number value =
    sym (read_back m sixteen) ∙ rw (same, number, value) (read_back n sixteen')
