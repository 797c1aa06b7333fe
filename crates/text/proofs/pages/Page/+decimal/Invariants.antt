-- `decimal` calls itself with one digit fewer.
-- Assumes nothing.
use Rattle.text.proofs.pages.Page.+decimal.Given as goal

abbrev pub decreases-decimal : goal.decreases-decimal
decreases-decimal l = l.k
