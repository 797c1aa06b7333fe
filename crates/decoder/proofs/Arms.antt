-- The meaning of a word, from what is known of its nibbles.
-- Assumes nothing.
use mathlib.Core.Path.{◌≡◌}
use Prim.Native.Nat.{ℕ, ◌/◌, ◌%◌}
use Rattle.decoder.specs.Code.{meaning, among}
use Rattle.decoder.specs.Table.{table}
use Rattle.decoder.specs.declared.meaning.Meaning.{Meaning}

-- An arm that knows some nibbles gives the meaning that the table has at these nibbles.
pub arm :
    {x : Meaning} {t s h l : ℕ} (w : ℕ) → w / 4096 ≡ t → w / 256 % 16 ≡ s → w / 16 % 16 ≡ h → w % 16 ≡ l →
    x ≡ among table (record { top = t; second = s; third = h; last = l }) → x ≡ meaning w
unfolding meaning
arm w top second third last e = rw (top, second, third, last) e
