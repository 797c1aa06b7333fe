-- The instructions that rewrite the PC, which may not stand in a slot: BF, BT, BF/S, BT/S, BRA, BRAF, BSR, BSRF, JMP, JSR, RTS, RTE,
-- TRAPA (document 01, "One step", item 3).
use Rattle.std.specs.Prelude.{Bool, true, false}
use Rattle.decoder.specs.declared.meaning.Meaning.{Meaning}
use Rattle.decoder.specs.declared.meaning.Meaning.TheVariants.{BranchIf, Branch, BranchTo, Return, Trapa}

abbrev pub rewrites_pc : Meaning → Bool
rewrites_pc (BranchIf op d) = true
rewrites_pc (Branch op d) = true
rewrites_pc (BranchTo op m) = true
rewrites_pc (Return op) = true
rewrites_pc (Trapa i) = true
rewrites_pc other = false
