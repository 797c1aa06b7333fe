-- What an instruction works on: the registers and the memory (document 01, "State"), and the parts of SR.
use Rattle.std.specs.Prelude.{List, ℕ, ◌+◌, ◌*◌, ◌/◌, ◌%◌, ◌^◌, get_or, set}
use Rattle.std.specs.Int.Bits.{bit_and}
use Rattle.multiply.specs.declared.Mac.{Mac}
use Rattle.instructions.specs.declared.control.Control.{Control}

pub record State : Type 0 where
  pub registers : List ℕ
  pub control : Control
  pub memory : List ℕ

-- Rn. A register number is taken modulo 16 and a register that is not there is 0, so that `reg` has a meaning for every number and every list;
-- the decoder's numbers are below 16, and the code's registers are sixteen.
abbrev pub reg : ℕ → State → ℕ
reg n s = get_or s.registers (n % 16) 0

abbrev pub with_reg : ℕ → ℕ → State → State
with_reg n v s = record { registers = set s.registers (n % 16) v; control = s.control; memory = s.memory }

abbrev pub with_memory : List ℕ → State → State
with_memory m s = record { registers = s.registers; control = s.control; memory = m }

-- The control and system registers (document 000, sections 2.2 and 2.3) changed by f.
abbrev pub changed : (Control → Control) → State → State
changed f s = record { registers = s.registers; control = f s.control; memory = s.memory }

-- SR: M is bit 9, Q bit 8, I bits 7 to 4, S bit 1, T bit 0.
abbrev pub t_bit : State → ℕ
t_bit s = s.control.sr % 2

abbrev pub s_bit : State → ℕ
s_bit s = s.control.sr / 2 % 2

abbrev pub q_bit : State → ℕ
q_bit s = s.control.sr / 2 ^ 8 % 2

abbrev pub m_bit : State → ℕ
m_bit s = s.control.sr / 2 ^ 9 % 2

abbrev pub mac : State → Mac
mac s = record { mach = s.control.mach; macl = s.control.macl }

-- "its mask is H'3F3. Every other SR bit is zero."
abbrev pub masked : ℕ → ℕ
masked x = bit_and x 0x3f3

-- The control and system registers by name.
abbrev pub control : (pc sr gbr vbr pr mach macl : ℕ) → Control
control pc sr gbr vbr pr mach macl =
    record { pc = pc; sr = sr; gbr = gbr; vbr = vbr; pr = pr; mach = mach; macl = macl }

abbrev pub with_pc : ℕ → Control → Control
with_pc v c =
    record { pc = v; sr = c.sr; gbr = c.gbr; vbr = c.vbr; pr = c.pr; mach = c.mach; macl = c.macl }

abbrev pub with_sr : ℕ → Control → Control
with_sr v c =
    record { pc = c.pc; sr = v; gbr = c.gbr; vbr = c.vbr; pr = c.pr; mach = c.mach; macl = c.macl }

-- T alone; M, Q and T. Each is one bit. I and S stay.
abbrev pub sr_with_t : ℕ → ℕ → ℕ
sr_with_t t sr = sr / 2 * 2 + t % 2

abbrev pub sr_with_mqt : ℕ → ℕ → ℕ → ℕ → ℕ
sr_with_mqt m q t sr = m % 2 * 2 ^ 9 + q % 2 * 2 ^ 8 + sr / 2 % 2 ^ 7 * 2 + t % 2

abbrev pub with_t : ℕ → Control → Control
with_t t c = with_sr (sr_with_t t c.sr) c

abbrev pub with_mqt : ℕ → ℕ → ℕ → Control → Control
with_mqt m q t c = with_sr (sr_with_mqt m q t c.sr) c

abbrev pub with_gbr : ℕ → Control → Control
with_gbr v c =
    record { pc = c.pc; sr = c.sr; gbr = v; vbr = c.vbr; pr = c.pr; mach = c.mach; macl = c.macl }

abbrev pub with_vbr : ℕ → Control → Control
with_vbr v c =
    record { pc = c.pc; sr = c.sr; gbr = c.gbr; vbr = v; pr = c.pr; mach = c.mach; macl = c.macl }

abbrev pub with_pr : ℕ → Control → Control
with_pr v c =
    record { pc = c.pc; sr = c.sr; gbr = c.gbr; vbr = c.vbr; pr = v; mach = c.mach; macl = c.macl }

abbrev pub with_mac : ℕ → ℕ → Control → Control
with_mac h l c =
    record { pc = c.pc; sr = c.sr; gbr = c.gbr; vbr = c.vbr; pr = c.pr; mach = h; macl = l }

abbrev pub with_mach : ℕ → Control → Control
with_mach h c = with_mac h c.macl c

abbrev pub with_macl : ℕ → Control → Control
with_macl l c = with_mac c.mach l c
