-- The laws of a run, in every situation, asleep and stopped included: a run of a + b is a run of a and then of b, with the steps added.
-- Assumes nothing.
use Rattle.std.proofs.Common.{◌≡◌, ℕ, zero, suc, ◌+◌, Bool, true, false, cond, refl, suc-add, zero-add}
use Rattle.machine.specs.Situation.{Situation}
use Rattle.machine.specs.Step.{halted, step}
use Rattle.machine.specs.Run.{Ran, still, one_more, run}

-- A run, and one that goes on from where it ended.
abbrev pub followed : Ran → Ran → Ran
followed first later = record { after = later.after; steps = first.steps + later.steps }

pub run_halted : (n : ℕ) (x : Situation) → halted x ≡ true → run n x ≡ still x
unfolding run
run_halted zero x e = refl
run_halted (suc n) x e = rw e

pub run_suc : (n : ℕ) (x : Situation) → halted x ≡ false → run (suc n) x ≡ one_more (run n (step x))
unfolding run
run_suc n x e = rw e

pub run_plus : (a b : ℕ) (x : Situation) → run (a + b) x ≡ followed (run a x) (run b (run a x).after)
unfolding run
run_plus zero b x = rw (zero-add b, zero-add (run b x).steps)
run_plus (suc a) b x = rw (suc-add a b) (go (halted x) refl (run_plus a b (step x)))
  where
    go :
        (h : Bool) → halted x ≡ h →
        run (a + b) (step x) ≡ followed (run a (step x)) (run b (run a (step x)).after) →
        cond h (still x) (one_more (run (a + b) (step x))) ≡
        followed (cond h (still x) (one_more (run a (step x)))) (run b (cond h (still x) (one_more (run a (step x)))).after)
    go true e ih = rw (run_halted b x e)
    go false e ih = rw (ih, suc-add (run a (step x)).steps (run b (run a (step x)).after).steps)
