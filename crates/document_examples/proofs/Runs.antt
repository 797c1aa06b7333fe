-- Closed runs of the definition, computed: document 01's image of the section "The runner", and the four divisions that it gives as
-- "Run and compared".
-- Assumes nothing.
use mathlib.Core.Path.{◌≡◌, refl, ◌∙◌, ap}
use mathlib.Core.Bool.{true, false}
use mathlib.Core.List.{List, [], ◌∷◌, ◌++◌}
use Prim.Native.Nat.{ℕ, zero, suc, ◌/◌, ◌%◌}
use lib.ListN.{replicate, get_or}
use Rattle.memory.specs.Access.{accessible, loaded, value_at}
use Rattle.decoder.specs.Code.{meaning, among}
use Rattle.decoder.specs.Table.{table}
use Rattle.instructions.specs.State.{control}
use Rattle.instructions.specs.Execute.{attempted, execute}
use Rattle.machine.specs.declared.Mode.TheVariants.{Running, Asleep}
use Rattle.machine.specs.Step.{halted, step}
use Rattle.machine.specs.Run.{run, one_more, Ran}
use Rattle.machine.specs.Situation.{Situation, over}
use Rattle.machine.specs.Calls.{blank, run_call, start}
use Rattle.machine.proofs.Runs.{run_halted, run_suc}

-- 1,024 bytes: PC H'200 and R15 H'400 in the first two longs, and a program of at most 256 words at H'200.
unfoldable pub image : List ℕ → List ℕ
image code = 0 ∷ 0 ∷ 2 ∷ 0 ∷ 0 ∷ 0 ∷ 4 ∷ 0 ∷ (replicate 504 0 ++ code)

-- MOV #5,R0 and SLEEP: "1,024 bytes, zero but for 00 00 02 00 00 00 04 00 at 0 and E0 05 00 1B at H'200".
unfoldable pub small : List ℕ
small = image (0xe0 ∷ 5 ∷ 0 ∷ 0x1b ∷ replicate 508 0)

-- A run whose second step leads to sleep, whatever is left of its budget, by the laws of a run. To compute the whole run instead, the
-- checker would count the budget of a million down, and has not the stack for it.
sleeps_after_two :
    (n : ℕ) (x : Situation) → halted x ≡ false → halted (step x) ≡ false → halted (step (step x)) ≡ true →
    run (suc (suc n)) x ≡ record { after = step (step x); steps = 2 }
sleeps_after_two n x awake awake' asleep =
    run_suc (suc n) x awake ∙ ap one_more (run_suc n (step x) awake' ∙ ap one_more (run_halted n (step (step x)) asleep))

pub runs_to_sleep :
    run_call 1000000 (start blank small) small ≡
    record {
      refusal = 0;
      ran =
          record {
            after =
                over
                (record { r = 5 ∷ (replicate 14 0 ++ (0x400 ∷ [])); control = control 0x204 0xf0 0 0 0 0 0; mode = Asleep })
                small;
            steps = 2;
          };
    }
unfolding small image step meaning among table attempted execute accessible loaded value_at
runs_to_sleep = rw (sleeps_after_two 999998 (over (start blank small) small) refl refl refl) refl

-- DIV0U, 32 times ROTCL R1 and DIV1 R3,R2, and ROTCL R1.
pairs : ℕ → List ℕ
pairs zero = 0x41 ∷ 0x24 ∷ replicate 380 0
pairs (suc n) = 0x41 ∷ 0x24 ∷ 0x32 ∷ 0x34 ∷ pairs n

divider : List ℕ
divider = image (0 ∷ 0x19 ∷ pairs 32)

-- high:low / divisor: low, high and Q afterwards, the PC and the steps taken
outcome : Ran → List ℕ
outcome x =
    let s = x.after.state in
    get_or s.registers 1 0 ∷ get_or s.registers 2 0 ∷ s.control.sr / 256 % 2 ∷ s.control.pc ∷ x.steps ∷ []

pub divide : ℕ → ℕ → ℕ → List ℕ
divide high low divisor =
    outcome
    (run 66
    (over
    (record { r = 0 ∷ low ∷ high ∷ divisor ∷ replicate 12 0; control = control 0x200 0xf0 0 0 0 0 0; mode = Running })
    divider))

-- "0:100 / 7 gives 14, H'FFFFFFFB, 1. 1:0 / 3 gives H'55555555, 1, 0. 6:H'FFFFFFFF / 7 gives H'FFFFFFFF, 6, 0. 0:100 / 0 gives
-- H'FFFFFFFF, 100, 0."
pub divisions :
    divide 0 100 7 ∷ divide 1 0 3 ∷ divide 6 0xffff_ffff 7 ∷ divide 0 100 0 ∷ [] ≡
    (14 ∷ 0xffff_fffb ∷ 1 ∷ 0x284 ∷ 66 ∷ []) ∷
    (0x5555_5555 ∷ 1 ∷ 0 ∷ 0x284 ∷ 66 ∷ []) ∷
    (0xffff_ffff ∷ 6 ∷ 0 ∷ 0x284 ∷ 66 ∷ []) ∷
    (0xffff_ffff ∷ 100 ∷ 0 ∷ 0x284 ∷ 66 ∷ []) ∷
    []
unfolding divide outcome divider pairs image run step meaning among table attempted execute accessible loaded value_at
divisions = refl
