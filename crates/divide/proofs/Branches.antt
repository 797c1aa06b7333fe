-- Why each of the eight branches of DIV1's page (document 000, section 6.19) gives what document 01's sentences give: a law of the
-- difference and the sum, a law of Q, and the two together.
-- Assumes nothing.
use Rattle.std.proofs.Common.{◌≡◌, ℕ, ◌+◌, ◌*◌, ◌/◌, ◌%◌, ◌^◌, ◌<◌, ◌≤◌, Bool, true, false, cond, not, eqb, ltb, leb, refl, arith, ltb-false, ltb-true, le-ltb, lt-ltb, leb-false, leb-true}
use mir.Val.{bool_byte}
use Rattle.numbers.specs.Numbers.{low32}
use Rattle.arithmetic.specs.Sums.{add, sub}
use Rattle.divide.specs.declared.Divided.{Divided}
use Rattle.divide.specs.Divide.{flipped, div1}

-- What the wrapping difference (true) or sum (false) v of d and m ensures.
abbrev Wraps : Bool → ℕ → ℕ → ℕ → Type 0
Wraps true m d v = (v + m) % 2 ^ 32 ≡ d
Wraps false m d v = v ≡ (d + m) % 2 ^ 32

-- The page's tmp1: a difference is above, or a sum below, the shifted Rn.
abbrev tmp1 : Bool → ℕ → ℕ → Bool
tmp1 subtracts d v = cond subtracts (ltb d v) (ltb v d)

-- v is the sentences' difference or sum, and tmp1 its borrow or carry.
partial :
    (subtracts : Bool) (m d v : ℕ) → m < 2 ^ 32 → d < 2 ^ 32 → v < 2 ^ 32 → Wraps subtracts m d v →
    (v ≡ cond subtracts (sub m d) (add m d)) × (tmp1 subtracts d v ≡ cond subtracts (ltb d m) (leb (2 ^ 32) (d + m)))
partial true m d v hm hd hv e = (omega arith, go (ltb d m) refl)
  where
    go : (b : Bool) → ltb d m ≡ b → ltb d v ≡ b
    go true t = let l : d < m = ltb-true d m t in lt-ltb d v (omega arith)
    go false t = let l : m ≤ d = ltb-false d m t in le-ltb d v (omega arith)
partial false m d v hm hd hv e = (e, go (leb (2 ^ 32) (d + m)) refl)
  where
    go : (b : Bool) → leb (2 ^ 32) (d + m) ≡ b → ltb v d ≡ b
    go true t = let l : 2 ^ 32 ≤ d + m = leb-true (2 ^ 32) (d + m) t in lt-ltb v d (omega arith)
    go false t = let l : d + m < 2 ^ 32 = leb-false (2 ^ 32) (d + m) t in le-ltb v d (omega arith)

-- Which case of the page's switch(Q): the top bit is 0, or not.
abbrev Zero : Bool → ℕ → Type 0
Zero true q = q ≡ 0
Zero false q = q ≡ 0 → ⊥

case : (q_is0 : Bool) (q : ℕ) → q < 2 → Zero q_is0 q → q ≡ bool_byte (not q_is0)
case true q h e = e
case false q h e = omega arith

-- The page's new Q: from M, Q's case and tmp1.
abbrev new_q : Bool → Bool → Bool → ℕ
new_q m_is1 q_is0 b =
    let same = bool_byte b in
    let other = bool_byte (eqb same 0) in
    cond m_is1 (cond q_is0 other same) (cond q_is0 same other)

-- It is the top bit, flipped if M is 1 and flipped again on a borrow or carry.
flips : (m_is1 q_is0 b : Bool) → new_q m_is1 q_is0 b ≡ flipped b (flipped m_is1 (bool_byte (not q_is0)))
flips true true true = refl
flips true true false = refl
flips true false true = refl
flips true false false = refl
flips false true true = refl
flips false true false = refl
flips false false true = refl
flips false false false = refl

-- "Rm is subtracted if old Q = M", from the cases of the old Q and M.
abbrev pub subtracts : Bool → Bool → Bool
subtracts old_q m_is1 = cond m_is1 old_q (not old_q)

-- What a branch leaves is what the sentences give.
module _
    (m n m_bit q t d value new : ℕ) (old : Bool) (hm : m < 2 ^ 32) (hn : n < 2 ^ 32) (shifted : d ≡ low32 (n * 2 + t))
    (kept : eqb q m_bit ≡ subtracts old (eqb m_bit 1)) where
  pub branch :
      (old_q m_is1 q_is0 : Bool) (v : ℕ) → old ≡ old_q → eqb m_bit 1 ≡ m_is1 → v < 2 ^ 32 → Wraps (subtracts old_q m_is1) m d v →
      Zero q_is0 (n / 2 ^ 31) → new ≡ new_q m_is1 q_is0 (tmp1 (subtracts old_q m_is1) d v) → value ≡ v →
      ◌≡◌ {A = Divided} (record { value = value; q = new; t = bool_byte (eqb new m_bit) }) (div1 m n m_bit q t)
  branch old_q m_is1 q_is0 v eo em hv w z en ev =
      let s = subtracts old_q m_is1 in
      let p = partial s m d v hm (omega arith) hv w in
      rw
      (← shifted, kept, em, eo, case q_is0 (n / 2 ^ 31) (omega arith) z, ev, en, flips m_is1 q_is0 (tmp1 s d v), p.1, p.0)
