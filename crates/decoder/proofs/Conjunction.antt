-- Laws of the conjunction of tests.
-- Assumes nothing.
use mathlib.Core.Path.{◌≡◌}
use mathlib.Core.Bool.{Bool, true, false, ◌&&◌, ◌||◌, and-false}
use lib.Dec.{T}

pub left : (a b : Bool) → T (a && b) → T a
left true b t = tt
left false b t = t

pub right : (a b : Bool) → T (a && b) → T b
right true b t = t
right false b t = absurd t

-- Four tests, of which one fails because of p, of q, of r or of s.
pub one_fails :
    (a b c d p q r s : Bool) → (T p → a ≡ false) → (T q → b ≡ false) → (T r → c ≡ false) → (T s → d ≡ false) →
    T (p || (q || (r || s))) → (a && (b && (c && d))) ≡ false
one_fails a b c d true q r s f g h k t = rw (f tt)
one_fails a b c d false true r s f g h k t = rw (g tt, and-false)
one_fails a b c d false false true s f g h k t = rw (h tt, and-false, and-false)
one_fails a b c d false false false s f g h k t = rw (k t) (simp and-false)

pub all_pass : (a b c d : Bool) → T (a && (b && (c && d))) → T a × T b × T c × T d
all_pass true true true d t = (tt, tt, tt, t)
all_pass true true false d t = absurd t
all_pass true false c d t = absurd t
all_pass false b c d t = absurd t
