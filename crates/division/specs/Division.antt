-- The division of the 64 bits high:low by a divisor, in 66 instructions: what is assumed before it and what holds after it.
-- Document 01, "The division, in full".
use Rattle.std.specs.Prelude.{◌≡◌, List, [], ◌∷◌, ℕ, zero, suc, ◌+◌, ◌*◌, ◌-◌, ◌/◌, ◌%◌, ◌^◌, ◌≤◌, ◌<◌, length, get_or, replicate, Result}
use Rattle.numbers.specs.Numbers.{low32}
use Rattle.arithmetic.specs.Logic.{complement}
use Rattle.memory.specs.Access.{value_at}
use Rattle.instructions.specs.State.{State, reg, t_bit, s_bit, q_bit, m_bit, masked}
use Rattle.machine.specs.declared.Answer.{Answer}
use Rattle.machine.specs.declared.Refused.{Refused}
use Rattle.machine.specs.declared.Machine.{Machine}
use Rattle.machine.specs.declared.Mode.TheVariants.{Running}
use Rattle.machine.specs.Situation.{Situation, machine_of, over}
use Rattle.machine.specs.Run.{Ran, still, run}
use Rattle.machine.specs.Calls.{Called, Runs, called, refused, run_call}

-- DIV0U, ROTCL Rn and DIV1 Rm,Rn: document 000, sections 6.18, 6.46 and 6.19.
abbrev pub div0u_code : ℕ
div0u_code = 0b0000_0000_0001_1001

abbrev pub rotcl_code : ℕ → ℕ
rotcl_code n = 0b0100_0000_0010_0100 + n * 2 ^ 8

abbrev pub div1_code : ℕ → ℕ → ℕ
div1_code m n = 0b0011_0000_0000_0100 + n * 2 ^ 8 + m * 2 ^ 4

-- n times ROTCL low and DIV1 divisor,high, and then ROTCL low.
abbrev pub pairs : ℕ → ℕ → ℕ → ℕ → List ℕ
pairs zero low high divisor = rotcl_code low ∷ []
pairs (suc n) low high divisor = rotcl_code low ∷ div1_code divisor high ∷ pairs n low high divisor

abbrev pub sequence : ℕ → ℕ → ℕ → List ℕ
sequence low high divisor = div0u_code ∷ pairs 32 low high divisor

-- Some words stand one after the other from an address on.
abbrev pub Words : List ℕ → ℕ → List ℕ → Type 0
Words memory address [] = Unit {0}
Words memory address (w ∷ rest) = (value_at 2 memory address ≡ w) × Words memory (address + 2) rest

-- Before: low, high and divisor are register numbers.
pub record Premises (low high divisor : ℕ) (m : Machine) (memory : List ℕ) : Type 0 where
  -- the machine runs, outside a slot
  pub running : m.mode ≡ Running
  -- "PC is even, all 66 words from it lie inside the memory"
  pub even : m.control.pc % 2 ≡ 0
  pub inside : m.control.pc + 66 * 2 ≤ length memory
  pub words : Words memory m.control.pc (sequence low high divisor)
  -- three different registers of any number
  pub low_number : low < 16
  pub high_number : high < 16
  pub divisor_number : divisor < 16
  pub low_high : low ≡ high → ⊥
  pub low_divisor : low ≡ divisor → ⊥
  pub high_divisor : high ≡ divisor → ⊥
  -- "no call is one to refuse": the first is not, and none of the others is by what follows
  pub accepted : refused m memory ≡ 0
  -- "R0 to R15, [...] each 32 bits": the ranges of the public record's type
  pub sixteen : length m.r ≡ 16
  pub long : (n : ℕ) → get_or m.r n 0 < 2 ^ 32

-- I: SR's bits 7 to 4.
abbrev pub i_bits : State → ℕ
i_bits s = s.control.sr / 2 ^ 4 % 2 ^ 4

-- After, whatever the numbers.
pub record Completed (low high : ℕ) (before after : Situation) (steps : ℕ) : Type 0 where
  -- "66 steps are reported in sum, PC is 132 further, the mode is running"
  pub counted : steps ≡ 66
  pub pc : after.state.control.pc ≡ before.state.control.pc + 132
  pub running : after.mode ≡ Running
  -- "memory, S, I and every register but low, high, PC and SR are as before"
  pub memory : after.state.memory ≡ before.state.memory
  pub s : s_bit after.state ≡ s_bit before.state
  pub i : i_bits after.state ≡ i_bits before.state
  pub others : (n : ℕ) → n < 16 → (n ≡ low → ⊥) → (n ≡ high → ⊥) → reg n after.state ≡ reg n before.state
  pub sixteen : length after.state.registers ≡ 16
  pub gbr : after.state.control.gbr ≡ before.state.control.gbr
  pub vbr : after.state.control.vbr ≡ before.state.control.vbr
  pub pr : after.state.control.pr ≡ before.state.control.pr
  pub mach : after.state.control.mach ≡ before.state.control.mach
  pub macl : after.state.control.macl ≡ before.state.control.macl
  -- "M = 0, T = 0"; "Every other SR bit is zero."
  pub m : m_bit after.state ≡ 0
  pub t : t_bit after.state ≡ 0
  pub mask : masked after.state.control.sr ≡ after.state.control.sr

-- What the registers low, high and divisor hold, and Q.
pub record Values : Type 0 where
  pub low : ℕ
  pub high : ℕ
  pub divisor : ℕ
  pub q : ℕ

abbrev pub values : ℕ → ℕ → ℕ → State → Values
values low high divisor s = record { low = reg low s; high = reg high s; divisor = reg divisor s; q = q_bit s }

-- The 64-bit number high:low.
abbrev pub dividend : Values → ℕ
dividend x = x.high * 2 ^ 32 + x.low

-- After, where high < divisor.
pub record Divided (before after : Values) : Type 0 where
  -- "low is the quotient"
  pub quotient : after.low ≡ dividend before / before.divisor
  -- "for an odd quotient Q = 0 and high is the remainder"
  pub odd_q : after.low % 2 ≡ 1 → after.q ≡ 0
  pub odd_high : after.low % 2 ≡ 1 → after.high ≡ dividend before % before.divisor
  -- "for an even one Q = 1 and high is the remainder less the divisor modulo 2^32"
  pub even_q : after.low % 2 ≡ 0 → after.q ≡ 1
  pub even_high : after.low % 2 ≡ 0 → after.high ≡ low32 (dividend before % before.divisor + 2 ^ 32 - before.divisor)

-- After, where the divisor is 0: "low is the old high complemented, high the old low, Q the old high's lowest bit"
pub record Complemented (before after : Values) : Type 0 where
  pub low : after.low ≡ complement before.high
  pub high : after.high ≡ before.low
  pub q : after.q ≡ before.high % 2

pub record Conclusion (low high divisor : ℕ) (before after : Situation) (steps : ℕ) : Type 0 where
  pub completed : Completed low high before after steps
  pub divided :
      reg high before.state < reg divisor before.state →
      Divided (values low high divisor before.state) (values low high divisor after.state)
  pub complemented :
      reg divisor before.state ≡ 0 →
      Complemented (values low high divisor before.state) (values low high divisor after.state)

abbrev pub sum : List ℕ → ℕ
sum [] = 0
sum (budget ∷ rest) = budget + sum rest

-- "cut into runs anywhere (budgets of 0 allowed, state and memory handed on unchanged)": runs with these budgets, one after the other, each
-- from where the one before it ended, and their steps in sum.
abbrev pub runs : List ℕ → Situation → Ran
runs [] x = still x
runs (budget ∷ rest) x =
    let one = run budget x in
    let later = runs rest one.after in
    record { after = later.after; steps = one.steps + later.steps }

-- The same as calls: machine and memory of each answer go into the next call. The refusals are document 01's numbers, 0 for none.
pub record Answers : Type 0 where
  pub refusals : List ℕ
  pub machine : Machine
  pub memory : List ℕ
  pub steps : ℕ

abbrev pub calls : List ℕ → Machine → List ℕ → Answers
calls [] m memory = record { refusals = []; machine = m; memory = memory; steps = 0 }
calls (budget ∷ rest) m memory =
    let one = run_call budget m memory in
    let later = calls rest (machine_of one.ran.after) one.ran.after.state.memory in
    record {
      refusals = one.refusal ∷ later.refusals;
      machine = later.machine;
      memory = later.memory;
      steps = one.ran.steps + later.steps;
    }

-- The division theorem, of runs.
abbrev pub RunsDivide : Type 0
RunsDivide =
    (low high divisor : ℕ) (m : Machine) (memory : List ℕ) → Premises low high divisor m memory → (budgets : List ℕ) →
    sum budgets ≡ 66 →
    let end = runs budgets (over m memory) in
    Conclusion low high divisor (over m memory) end.after end.steps

-- The division theorem, of calls: none of them is refused.
abbrev pub CallsDivide : Type 0
CallsDivide =
    (low high divisor : ℕ) (m : Machine) (memory : List ℕ) → Premises low high divisor m memory → (budgets : List ℕ) →
    sum budgets ≡ 66 →
    let end = calls budgets m memory in
    (end.refusals ≡ replicate (length budgets) 0) ×
    Conclusion low high divisor (over m memory) (over end.machine end.memory) end.steps

-- What a call answers, with the memory that it leaves; what it comes to; and the machine that it hands on.
pub record Reply : Type 0 where
  pub answer : Result Answer Refused
  pub memory : List ℕ

abbrev pub come_to : Reply → Called
come_to reply = called reply.answer reply.memory

abbrev pub handed_on : Reply → Machine
handed_on reply = machine_of (come_to reply).ran.after

-- Replies that meet the promise of the public operation `run`, one for each budget, each call made with what the one before it left.
abbrev pub Meets : List ℕ → Machine → List ℕ → List Reply → Type 0
Meets [] m memory [] = Unit {0}
Meets [] m memory (reply ∷ replies) = ⊥
Meets (budget ∷ rest) m memory [] = ⊥
Meets (budget ∷ rest) m memory (reply ∷ replies) =
    Runs budget m memory reply.answer reply.memory × Meets rest (handed_on reply) reply.memory replies

abbrev pub gathered : Machine → List ℕ → List Reply → Answers
gathered m memory [] = record { refusals = []; machine = m; memory = memory; steps = 0 }
gathered m memory (reply ∷ replies) =
    let one = come_to reply in
    let later = gathered (handed_on reply) reply.memory replies in
    record {
      refusals = one.refusal ∷ later.refusals;
      machine = later.machine;
      memory = later.memory;
      steps = one.ran.steps + later.steps;
    }

-- The division theorem, of the public operation: whatever replies its promise allows.
abbrev pub PromisesDivide : Type 0
PromisesDivide =
    (low high divisor : ℕ) (m : Machine) (memory : List ℕ) → Premises low high divisor m memory → (budgets : List ℕ) →
    sum budgets ≡ 66 → (replies : List Reply) → Meets budgets m memory replies →
    let end = gathered m memory replies in
    (end.refusals ≡ replicate (length budgets) 0) ×
    Conclusion low high divisor (over m memory) (over end.machine end.memory) end.steps
