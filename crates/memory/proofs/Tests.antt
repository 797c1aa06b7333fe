-- What the test of an access, passed, says of its place.
-- Assumes nothing.
use mathlib.Core.Path.{◌≡◌, sym, ◌∙◌}
use mathlib.Core.Bool.{Bool, true, and-eq-true_iff}
use mathlib.Core.List.{List}
use Prim.Native.Nat.{ℕ, ◌+◌, ◌%◌, ◌≤◌}
use lib.Dec.{eqb, leb}
use lib.ListN.{length}
use borrow.Author.Tests.{leb-true}
use Rattle.memory.specs.Access.{accessible}

pub inside :
    (k : ℕ) (memory : List ℕ) (address : ℕ) {test : Bool} → test ≡ accessible k memory address → test ≡ true →
    address + k ≤ length memory
unfolding accessible
inside k memory address tested passed =
    leb-true _ _
    ((and-eq-true_iff (eqb (address % k) 0) (leb (address + k) (length memory))).0 (sym tested ∙ passed)).1
