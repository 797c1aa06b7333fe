-- What holds of a situation by its cases: of an exception's entry, what holds entered and stopped; of a run, what every step keeps.
-- Assumes nothing.
use Rattle.std.proofs.Common.{ℕ, zero, suc, Bool, true, false, cond, not, ◌||◌, eqb, [], ◌∷◌}
use Rattle.memory.specs.Access.{accessible}
use Rattle.memory.specs.Lengths.{first, test}
use Rattle.instructions.specs.State.{State}
use Rattle.machine.specs.Situation.{Situation, at, stopped}
use Rattle.machine.specs.Exceptions.{below_r15, enter, entered, vector}
use Rattle.machine.specs.Run.{Ran, still, one_more, run}
use Rattle.machine.specs.Step.{halted, step}

module _ (P : Situation → Type 0) where
  pub either : (test : Bool) (x y : Situation) → P x → P y → P (cond test x y)
  either true x y here there = here
  either false x y here there = there

  pub by_entry :
      (number saved sr : ℕ) (s : State) → P (entered number saved sr s) → P (at (stopped 1) s) → P (at (stopped 2) s) →
      P (enter number saved sr s)
  unfolding enter
  by_entry number saved sr s done no-push no-vector = go (fails (below_r15 4 s) || fails (below_r15 8 s)) (fails (vector number s))
    where
      fails : ℕ → Bool
      fails address = not (accessible 4 s.memory address)

      go :
          (push vector : Bool) →
          let reason = first (test 1 push ∷ test 2 vector ∷ []) in
          P (cond (eqb reason 0) (entered number saved sr s) (at (stopped reason) s))
      go true vector = no-push
      go false true = no-vector
      go false false = done

  further : (test : Bool) (x : Situation) (later : Ran) → P x → P later.after → P (cond test (still x) (one_more later)).after
  further true x later here there = here
  further false x later here there = there

  pub run_keeps : ((x : Situation) → P x → P (step x)) → (n : ℕ) (x : Situation) → P x → P (run n x).after
  unfolding run
  run_keeps keeps zero x holds = holds
  run_keeps keeps (suc n) x holds =
      further (halted x) x (run n (step x)) holds (run_keeps keeps n (step x) (keeps x holds))
