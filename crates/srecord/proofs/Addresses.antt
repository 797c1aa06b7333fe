-- Which addresses a line writes, and that two lines share one exactly where `share` says so.
-- Assumes nothing.
use Rattle.std.proofs.Common.{◌≡◌, ℕ, ◌<◌, ◌≤◌, min, max, true, ltb, leb, arith, ltb-true, lt-ltb, le-leb, leb-true, Some}
use mathlib.Core.Bool.{and-eq-true_iff}
use Rattle.srecord.specs.Load.{end_of, share, writes}
use Rattle.srecord.specs.Promises.{}
use Rattle.srecord.specs.Records.{Record, address}

pub inside : (r : Record) (a : ℕ) → writes (Some r) a ≡ true → (address r ≤ a) × (a < end_of r)
inside r a h =
    let both = (and-eq-true_iff (leb (address r) a) (ltb a (end_of r))).0 h in
    (leb-true _ _ both.0, ltb-true _ _ both.1)

pub written : (r : Record) (a : ℕ) → address r ≤ a → a < end_of r → writes (Some r) a ≡ true
written r a low high = (and-eq-true_iff (leb (address r) a) (ltb a (end_of r))).1 (le-leb _ _ low, lt-ltb _ _ high)

-- The first address that both may write is the later of their two.
pub shared :
    (r s : Record) → share r s ≡ true → (a : ℕ) × (writes (Some r) a ≡ true) × (writes (Some s) a ≡ true)
shared r s h =
    let a = max (address r) (address s) in
    let below : a < min (end_of r) (end_of s) = ltb-true _ _ h in
    (a, written r a (omega arith) (omega arith), written s a (omega arith) (omega arith))

pub shares : (r s : Record) (a : ℕ) → writes (Some r) a ≡ true → writes (Some s) a ≡ true → share r s ≡ true
shares r s a p q =
    let x = inside r a p in
    let y = inside s a q in
    let below : max (address r) (address s) < min (end_of r) (end_of s) = omega arith in
    lt-ltb _ _ below
