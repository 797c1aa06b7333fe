-- Replies that meet the promise of `run` are the calls of the definition, since the promise leaves no choice.
-- Assumes nothing.
use mathlib.Core.Path.{◌≡◌, refl, sym, subst}
use mathlib.Core.List.{List, [], ◌∷◌}
use Prim.Native.Nat.{ℕ, ◌+◌}
use lib.ListN.{length, replicate}
use Rattle.machine.specs.Calls.{Called, called}
use Rattle.machine.proofs.Calling.{memory_told}
use Rattle.machine.specs.Situation.{machine_of, over}
use Rattle.machine.specs.declared.Machine.{Machine}
use Rattle.division.specs.Division.{Answers, Conclusion, Meets, PromisesDivide, Reply, calls, gathered, handed_on}
use Rattle.division.proofs.Division.{calls_divide}

abbrev joined : Called → Answers → Answers
joined one later =
    record {
      refusals = one.refusal ∷ later.refusals;
      machine = later.machine;
      memory = later.memory;
      steps = one.ran.steps + later.steps;
    }

gathered_calls :
    (budgets : List ℕ) (m : Machine) (memory : List ℕ) (replies : List Reply) → Meets budgets m memory replies →
    gathered m memory replies ≡ calls budgets m memory
gathered_calls [] m memory [] meets = refl
gathered_calls [] m memory (reply ∷ replies) meets = absurd meets
gathered_calls (budget ∷ rest) m memory [] meets = absurd meets
gathered_calls (budget ∷ rest) m memory (reply ∷ replies) meets =
    rw (gathered_calls rest (handed_on reply) reply.memory replies meets.1)
    (subst
    (λ (c : Called).
    joined (called reply.answer reply.memory) (calls rest (handed_on reply) reply.memory) ≡
    joined c (calls rest (machine_of c.ran.after) c.ran.after.state.memory))
    meets.0 (rw (memory_told reply.answer reply.memory) refl))

pub promises_divide : PromisesDivide
promises_divide low high divisor m memory p budgets e replies meets =
    subst
    (λ (end : Answers).
    (end.refusals ≡ replicate (length budgets) 0) ×
    Conclusion low high divisor (over m memory) (over end.machine end.memory) end.steps)
    (sym (gathered_calls budgets m memory replies meets))
    (calls_divide low high divisor m memory p budgets e)
