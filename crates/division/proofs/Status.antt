-- SR within the sequence: what DIV0U, ROTCL and DIV1 read of it and write to it, and that I, S and the mask are kept.
-- Assumes nothing.
use mathlib.Core.Path.{◌≡◌, sym, ◌∙◌, ap}
use Prim.Native.Nat.{ℕ, ◌+◌, ◌*◌, ◌/◌, ◌%◌, ◌^◌, ◌<◌}
use native.Mathlib.Omega.{arith}
use Rattle.instructions.specs.State.{masked}
use Rattle.instructions.proofs.Status.{masked_parts}

-- M clear, Q and T as given, I and S from the SR before.
abbrev pub status : ℕ → ℕ → ℕ → ℕ
status sr q t = q * 2 ^ 8 + sr / 2 % 2 ^ 7 * 2 + t

kept_parts : (upper lower : ℕ) → lower < 4 → (upper * 16 + lower) / 2 % 2 ^ 7 ≡ upper % 16 * 8 + lower / 2
kept_parts upper lower small =
    let halved : (upper * 16 + lower) / 2 ≡ upper * 8 + lower / 2 = omega arith in
    rw halved (omega arith)

pub keeps_s : (sr q : ℕ) → status sr q 0 / 2 % 2 ≡ sr / 2 % 2
keeps_s sr q = let halved : status sr q 0 / 2 ≡ q * 2 ^ 7 + sr / 2 % 2 ^ 7 = omega arith in omega arith

pub keeps_i : (sr q : ℕ) → status sr q 0 / 2 ^ 4 % 2 ^ 4 ≡ sr / 2 ^ 4 % 2 ^ 4
keeps_i sr q =
    let shifted : status sr q 0 / 2 ^ 4 ≡ q * 2 ^ 4 + sr / 2 % 2 ^ 7 / 2 ^ 3 = omega arith in
    let part : sr / 2 % 2 ^ 7 / 2 ^ 3 ≡ sr / 2 / 2 ^ 3 % 2 ^ 4 = omega arith in
    let same : sr / 2 / 2 ^ 3 ≡ sr / 2 ^ 4 = omega arith in
    omega arith

module _ (sr q t : ℕ) (q_bit : q < 2) (t_bit : t < 2) where
  pub reads_t : status sr q t % 2 ≡ t
  reads_t = omega arith

  pub reads_q : status sr q t / 2 ^ 8 % 2 ≡ q
  reads_q = let above : status sr q t / 2 ^ 8 ≡ q = omega arith in omega arith

  pub reads_m : status sr q t / 2 ^ 9 % 2 ≡ 0
  reads_m = let above : status sr q t / 2 ^ 9 ≡ 0 = omega arith in omega arith

  pub writes_t : (new : ℕ) → new < 2 → status sr q t / 2 * 2 + new % 2 ≡ status sr q new
  writes_t new bit = omega arith

  pub writes_qt :
      (new-q new-t : ℕ) → new-q < 2 → new-t < 2 →
      0 % 2 * 2 ^ 9 + new-q % 2 * 2 ^ 8 + status sr q t / 2 % 2 ^ 7 * 2 + new-t % 2 ≡ status sr new-q new-t
  writes_qt new-q new-t bit bit' = omega arith

  pub keeps_mask : masked sr ≡ sr → masked (status sr q t) ≡ status sr q t
  keeps_mask passes =
      let parts : sr / 16 % 64 * 16 + sr % 4 ≡ sr = sym (masked_parts sr) ∙ passes in
      let kept : sr / 2 % 2 ^ 7 ≡ sr / 16 % 64 % 16 * 8 + sr % 4 / 2 =
      ap (λ y. y / 2 % 2 ^ 7) (sym parts) ∙ kept_parts (sr / 16 % 64) (sr % 4) (omega arith) in
      masked_parts (status sr q t) ∙ rw kept (again (sr / 16 % 64 % 16) (sr % 4 / 2) (omega arith) (omega arith))
    where
      again :
          (i s : ℕ) → i < 16 → s < 2 →
          (q * 2 ^ 8 + (i * 8 + s) * 2 + t) / 16 % 64 * 16 + (q * 2 ^ 8 + (i * 8 + s) * 2 + t) % 4 ≡
          q * 2 ^ 8 + (i * 8 + s) * 2 + t
      again i s small bit =
          let above : (q * 2 ^ 8 + (i * 8 + s) * 2 + t) / 16 ≡ q * 16 + i = omega arith in
          rw above (omega arith)
