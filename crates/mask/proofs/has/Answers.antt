-- `mask::has` meets its contract: by the word in which the fact stands. Assumes nothing.
use borrow.Author.Rules.{rules}
use Rattle.mask.proofs.Halves.{has-by-low, has-by-high}
use Rattle.mask.proofs.has.Goals as goal

pub returns-then-f-lt64 : goal.returns-then-f-lt64
returns-then-f-lt64 c = search (rules, has-by-low)

pub returns : goal.returns
returns c = search (rules, has-by-high)
