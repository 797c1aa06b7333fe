-- The shapes of the instructions' effects, which the clauses of Execute.antt fill in.
use Rattle.std.specs.Prelude.{cond, ℕ, ◌+◌, None, Option, Some}
use Rattle.numbers.specs.Numbers.{low32}
use Rattle.numbers.specs.declared.WithT.{WithT}
use Rattle.multiply.specs.declared.Mac.{Mac}
use Rattle.arithmetic.specs.Sums.{sub}
use Rattle.memory.specs.Access.{accessible, loaded, written}
use Rattle.instructions.specs.State.{State, reg, with_reg, changed, with_t, with_mac, with_macl, with_memory}
use Rattle.instructions.specs.declared.control.Flow.{Flow}
use Rattle.instructions.specs.declared.control.Flow.TheVariants.{Next, Fault}

-- The state after an instruction, and where it leads.
pub record Effect : Type 0 where
  pub after : State
  pub flow : Flow

abbrev pub leads : Flow → State → Effect
leads f s = record { after = s; flow = f }

abbrev pub next : State → Effect
next s = leads Next s

-- A result into Rn; a result into Rn, and T; T alone; MACL alone; MACH and MACL.
abbrev pub gives : ℕ → ℕ → State → Effect
gives n v s = next (with_reg n v s)

abbrev pub gives_t : ℕ → WithT → State → Effect
gives_t n w s = next (changed (with_t w.t) (with_reg n w.value s))

abbrev pub tells : ℕ → State → Effect
tells t s = next (changed (with_t t) s)

abbrev pub gives_macl : ℕ → State → Effect
gives_macl v s = next (changed (with_macl v) s)

abbrev pub gives_mac : Mac → State → Effect
gives_mac a s = next (changed (with_mac a.mach a.macl) s)

-- Document 01, "One step", item 4: a data access "that is misaligned or outside: address error, and the instruction has no effect at all".
-- The k bytes at an address are read, and f says what follows with their value.
abbrev pub after_load : Option ℕ → State → (ℕ → Effect) → Effect
after_load (Some v) s f = f v
after_load None s f = leads Fault s

abbrev pub loading : (k address : ℕ) → State → (ℕ → Effect) → Effect
loading k address s f = after_load (loaded k s.memory address) s f

-- The low k bytes of a value are stored at an address, and f is done besides.
abbrev pub storing_and : (k address value : ℕ) → State → (State → State) → Effect
storing_and k address value s f =
    cond (accessible k s.memory address) (next (f (with_memory (written k s.memory address value) s))) (leads Fault s)

abbrev pub storing : (k address value : ℕ) → State → Effect
storing k address value s = storing_and k address value s (λ t. t)

-- Rn + k -> Rn, and the number a - k, both modulo 2^32.
abbrev pub incremented : (k n : ℕ) → State → State
incremented k n s = with_reg n (low32 (reg n s + k)) s

abbrev pub minus : (a k : ℕ) → ℕ
minus a k = sub k a
