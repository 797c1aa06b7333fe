-- Addresses counted from PC: document 01, "Branch addresses" and "PC-relative data". With A the instruction's own address, its PC is
-- A + 4: "PC = 4; means the instruction starts execution from address 0" (document 000, section 6.1).
use Rattle.std.specs.Prelude.{ℕ, ◌+◌, ◌*◌, ◌/◌, pos, ◌*ℤ◌}
use Rattle.numbers.specs.Numbers.{low32, signed, low_long}

-- A + 4: what an instruction at A takes for PC, and where BSR, BSRF and JSR return to
abbrev pub following : ℕ → ℕ
following a = low32 (a + 4)

-- BF, BT, BF/S, BT/S (half 2^7) and BRA, BSR (half 2^11): PC + 2 x signed displacement
abbrev pub branch : ℕ → ℕ → ℕ → ℕ
branch half pc d = low32 (pc + low_long (signed half d *ℤ pos 2))

-- BRAF, BSRF: PC + Rm
abbrev pub far : ℕ → ℕ → ℕ
far pc m = low32 (pc + m)

-- MOV.W @(disp,PC): PC + 2 x disp
abbrev pub relative_word : ℕ → ℕ → ℕ
relative_word pc d = low32 (pc + d * 2)

-- MOV.L @(disp,PC) and MOVA: PC with its two low bits cleared, plus 4 x disp
abbrev pub relative_long : ℕ → ℕ → ℕ
relative_long pc d = low32 (pc / 4 * 4 + d * 4)
