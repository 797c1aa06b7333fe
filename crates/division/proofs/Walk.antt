-- The walk through the sequence, for any number of pairs of ROTCL and DIV1: each pair is one more DIV1 step over the next bit of low. It
-- is made once, whatever the divisor; what the steps come to in each case is said of Steps alone (Remainder.antt, Shifted.antt).
-- Assumes nothing.
use mathlib.Core.Path.{◌≡◌, refl, sym, subst, subst₂}
use mathlib.Core.List.{List}
use Prim.Native.Nat.{ℕ, zero, suc, ◌+◌, ◌*◌, ◌%◌, ◌^◌, ◌<◌}
use native.Mathlib.Omega.{arith}
use Rattle.machine.specs.declared.Machine.{Machine}
use Rattle.machine.specs.declared.Mode.TheVariants.{Running}
use Rattle.machine.specs.Situation.{Situation, at, machine_of, over}
use Rattle.machine.proofs.Calling.{accepted, mask_passed, memory_accepted}
use Rattle.division.specs.Division.{pairs, Words, Premises}
use Rattle.division.proofs.Steps.{Steps, none, another, InRange, in_range, div1_t_bit}
use Rattle.division.proofs.LowHalf as half
use Rattle.division.proofs.LowHalf.{LowHalf}
use Rattle.division.proofs.Status.{keeps_mask}
use Rattle.division.proofs.Instructions.{Place, after_rotcl, after_div1, before, here, Sound, first, div0u_step, rotcl_step, div1_step}
use Rattle.division.proofs.Through.{Accepts, Through, there, onward}

-- The steps that n pairs and the last ROTCL take.
abbrev count : ℕ → ℕ
count zero = 1
count (suc n) = suc (suc (count n))

module _ {low high divisor : ℕ} {m : Machine} {memory : List ℕ} (p : Premises low high divisor m memory) where
  -- The end: 32 DIV1 steps have brought high and Q, over all bits of low, to value and q, and their answers stand in low.
  pub record AtEnd (x : Situation) : Type 0 where
    pub answers : ℕ
    pub value : ℕ
    pub q : ℕ
    pub steps : Steps (before p).divisor (before p).high (2 ^ 32) (before p).low answers value q
    pub ended : x ≡ here p (record { pc = m.control.pc + 132; low = answers; high = value; q = q; t = 0 })

  -- A place from which n pairs and the last ROTCL are to come.
  record Standing (n c taken answers : ℕ) (x : Place) : Type 0 where
    even : x.pc % 2 ≡ 0
    ahead : x.pc + n * 4 + 2 ≡ m.control.pc + 132
    words : Words memory x.pc (pairs n low high divisor)
    low_half : LowHalf (before p).low n c taken answers x.low x.t
    steps : Steps (before p).divisor (before p).high c taken answers x.high x.q

  range : {n c taken answers : ℕ} {x : Place} → Standing n c taken answers x → InRange c taken answers x.high x.q
  range standing = in_range (p.long (high % 16)) standing.steps

  sound : {n c taken answers : ℕ} {x : Place} → Standing n c taken answers x → x.low < 2 ^ 32 → Sound p x
  sound standing long =
      record {
        even = standing.even;
        inside = omega (arith, p.inside, standing.ahead);
        low_long = long;
        high_long = (range standing).long;
        q_bit = (range standing).bit;
        t_bit = standing.low_half.bit;
      }

  accepts : (x : Place) → x.q < 2 → x.t < 2 → Accepts (here p x)
  accepts x q_bit t_bit =
      accepted (machine_of (here p x)) memory (memory_accepted m memory p.accepted)
      (keeps_mask m.control.sr x.q x.t q_bit t_bit (mask_passed m memory p.accepted))

  abbrev Walks : ℕ → Type 0
  Walks n = (c taken answers : ℕ) (x : Place) → Standing n c taken answers x → Through AtEnd (count n) (here p x)

  walk_last : Walks 0
  walk_last c taken answers x standing =
      let lower = (range standing).answers_below in
      let low_half = standing.low_half in
      let long = half.last_long lower low_half in
      let after = after_rotcl x in
      onward AtEnd 0 (here p x) (here p after) (accepts x (range standing).bit low_half.bit) refl
      (rotcl_step p x (sound standing long) standing.words.0)
      (there AtEnd (here p after) (accepts after (range standing).bit (omega arith))
      (record {
        answers = answers;
        value = x.high;
        q = x.q;
        steps =
            subst₂ (λ (c taken : ℕ). Steps (before p).divisor (before p).high c taken answers x.high x.q)
            (half.all_done lower low_half) (half.all_taken lower low_half) standing.steps;
        ended =
            let end : x.pc + 2 ≡ m.control.pc + 132 = omega (arith, standing.ahead) in
            rw (end, half.last_value lower low_half, half.last_t lower low_half);
      }))

  walk_pair : (n : ℕ) → Walks n → Walks (suc n)
  walk_pair n walk c taken answers x standing =
      let lower = (range standing).answers_below in
      let low_half = standing.low_half in
      let long = half.long lower low_half in
      let middle = after_rotcl x in
      let after = after_div1 (before p).divisor middle in
      let bit : middle.t < 2 = omega arith in
      onward AtEnd (suc (count n)) (here p x) (here p middle) (accepts x (range standing).bit low_half.bit) refl
      (rotcl_step p x (sound standing long) standing.words.0)
      (onward AtEnd (count n) (here p middle) (here p after) (accepts middle (range standing).bit bit) refl
      (div1_step p middle
      (record {
        even = omega (arith, standing.even);
        inside = omega (arith, p.inside, standing.ahead);
        low_long = omega arith;
        high_long = (range standing).long;
        q_bit = (range standing).bit;
        t_bit = bit;
      })
      standing.words.1.0)
      (walk (c + c) (taken + taken + middle.t) (answers + answers + after.t) after
      (record {
        even = omega (arith, standing.even);
        ahead = omega (arith, standing.ahead);
        words = standing.words.1.1;
        low_half = half.moved lower low_half after.t (div1_t_bit (before p).divisor x.high x.q middle.t);
        steps = another middle.t bit standing.steps;
      })))

  walk : (n : ℕ) → Walks n
  walk zero = walk_last
  walk (suc n) = walk_pair n (walk n)

  -- The whole sequence, from DIV0U on.
  pub through : Through AtEnd 66 (over m memory)
  through =
      subst (λ mode. Through AtEnd 66 (at mode (over m memory).state)) (sym p.running)
      (onward AtEnd 65 (at Running (over m memory).state) (here p (first p)) p.accepted refl (div0u_step p)
      (walk 32 1 0 0 (first p)
      (record {
        even = omega (arith, p.even);
        ahead = omega arith;
        words = p.words.1;
        low_half = half.start (before p).low (p.long (low % 16));
        steps = none;
      })))
