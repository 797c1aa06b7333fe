-- `hex_in` calls itself with one digit fewer.
-- Assumes nothing.
use Rattle.text.proofs.pages.Page.+hex_in.Given as goal

abbrev pub decreases-hex_in : goal.decreases-hex_in
decreases-hex_in l = l.k
