-- Steps through situations in which a call is accepted: they may be cut into runs, and into calls, anywhere.
-- Assumes nothing.
use mathlib.Core.Path.{◌≡◌, refl, sym, ap}
use mathlib.Core.Bool.{false}
use mathlib.Core.List.{List, [], ◌∷◌}
use Prim.Native.Nat.{ℕ, zero, suc, ◌+◌}
use native.Mathlib.Nat.{zero-add, suc-add}
use lib.ListN.{length, replicate}
use Rattle.machine.specs.Situation.{Situation, machine_of}
use Rattle.machine.specs.Step.{halted, step}
use Rattle.machine.specs.Run.{run}
use Rattle.machine.specs.Calls.{refused}
use Rattle.machine.proofs.Runs.{run_suc, run_plus}
use Rattle.division.specs.Division.{runs, sum, calls}

abbrev pub Accepts : Situation → Type 0
Accepts x = refused (machine_of x) x.state.memory ≡ 0

-- From x on the machine takes n steps, each before and after accepted, and then P holds.
pub Through : (Situation → Type 0) → ℕ → Situation → Type 0
Through P zero x = Accepts x × P x
Through P (suc n) x = Accepts x × (halted x ≡ false) × Through P n (step x)

pub runs_sum : (budgets : List ℕ) (x : Situation) → runs budgets x ≡ run (sum budgets) x
unfolding run
runs_sum [] x = refl
runs_sum (budget ∷ rest) x = rw (runs_sum rest (run budget x).after) (sym (run_plus budget (sum rest) x))

module _ (P : Situation → Type 0) where
  pub there : (x : Situation) → Accepts x → P x → Through P 0 x
  unfolding Through
  there x accepts holds = (accepts, holds)

  pub onward :
      (n : ℕ) (x y : Situation) → Accepts x → halted x ≡ false → step x ≡ y → Through P n y → Through P (suc n) x
  unfolding Through
  onward n x y accepts awake leads through = (accepts, awake, rw leads through)

  accepted : (n : ℕ) (x : Situation) → Through P n x → Accepts x
  unfolding Through
  accepted zero x through = through.0
  accepted (suc n) x through = through.0

  pub ends : (n : ℕ) (x : Situation) → Through P n x → ((run n x).steps ≡ n) × P (run n x).after
  unfolding Through run
  ends zero x through = (refl, through.1)
  ends (suc n) x through =
      let later = ends n (step x) through.2 in
      rw (run_suc n x through.1) (ap suc later.0, later.1)

  part : (a b : ℕ) (x : Situation) → Through P (a + b) x → Through P b (run a x).after
  unfolding Through run
  part zero b x through = rw (zero-add b) at through
  part (suc a) b x through =
      let cut : Through P (suc (a + b)) x = rw (suc-add a b) at through in
      rw (run_suc a x cut.1) (part a b (step x) cut.2)

  -- The answers of calls of which none is refused.
  pub calls_are_runs :
      (budgets : List ℕ) (x : Situation) → Through P (sum budgets) x →
      calls budgets (machine_of x) x.state.memory ≡
      record {
        machine = machine_of (runs budgets x).after;
        memory = (runs budgets x).after.state.memory;
        steps = (runs budgets x).steps;
        refusals = replicate (length budgets) 0;
      }
  calls_are_runs [] x through = refl
  calls_are_runs (budget ∷ rest) x through =
      rw (accepted (budget + sum rest) x through)
      (rw (calls_are_runs rest (run budget x).after (part budget (sum rest) x through)))
