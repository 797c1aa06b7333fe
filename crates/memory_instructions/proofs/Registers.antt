-- A register that was written over and is set back leaves the registers as they were.
-- Assumes nothing.
use lib.Seq.{set-get_or}
use Rattle.std.proofs.Common.{set-set}

pub ruleset set_back = (set-set, set-get_or)
