-- The divide steps: document 000, sections 6.17 to 6.19, with document 01, "Instructions with corners", for DIV1.
-- m and n are the values of Rm and Rn before the instruction, also where they are one register.
use Rattle.std.specs.Prelude.{ℕ, ◌+◌, ◌-◌, ◌*◌, ◌/◌, ◌^◌, Bool, cond, not, ◌==◌, nat_eq, nat_le, nat_lt}
use Rattle.numbers.specs.Numbers.{truth, low32}
use Rattle.arithmetic.specs.Sums.{add, sub}
use Rattle.divide.specs.declared.Bits.{Bits}
use Rattle.divide.specs.declared.Divided.{Divided}

-- 6.17 DIV0S: the top bit of Rn goes into Q, that of Rm into M, and T tells whether they differ.
abbrev pub div0s : ℕ → ℕ → Bits
div0s m n = record { m = m / 2 ^ 31; q = n / 2 ^ 31; t = truth (not (m / 2 ^ 31 == n / 2 ^ 31)) }

-- 6.18 DIV0U
abbrev pub div0u : Bits
div0u = record { m = 0; q = 0; t = 0 }

abbrev pub flipped : Bool → ℕ → ℕ
flipped b q = cond b (1 - q) q

-- 6.19 DIV1, from Rm, Rn, M, Q and T, sentence by sentence.
abbrev pub div1 : ℕ → ℕ → ℕ → ℕ → ℕ → Divided
div1 m n m_bit q t =
    -- "the old Q is kept"
    let old_q = q in
    -- "Q becomes Rn's top bit"
    let top_bit = n / 2 ^ 31 in
    -- "Rn is doubled and T added"
    let doubled = low32 (n * 2 + t) in
    -- "Rm is subtracted if old Q = M, otherwise added, modulo 2^32"
    let subtracts = nat_eq old_q m_bit in
    let value = cond subtracts (sub m doubled) (add m doubled) in
    -- "Q is flipped if M is 1 and flipped again on a borrow or carry"
    let borrow_or_carry = cond subtracts (nat_lt doubled m) (nat_le (2 ^ 32) (doubled + m)) in
    let new_q = flipped borrow_or_carry (flipped (m_bit == 1) top_bit) in
    -- "T is 1 exactly if Q = M"
    record { value = value; q = new_q; t = truth (new_q == m_bit) }
