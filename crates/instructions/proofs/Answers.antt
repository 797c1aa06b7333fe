-- What two answers to one question say of each other.
-- Assumes nothing.
use mathlib.Core.Path.{◌≡◌, sym, ◌∙◌}

-- Two answers to one question.
pub met : {A : Type 0} {x y z : A} → x ≡ y → x ≡ z → y ≡ z
met p q = sym p ∙ q
