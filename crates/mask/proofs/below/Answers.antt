-- `mask::below` meets its contract: from 64 facts on the high word tells, below that it is zero. Assumes nothing.
use borrow.Author.Rules.{rules}
use Rattle.mask.proofs.Halves.{below-by-high, below-some, below-by-low}
use Rattle.mask.proofs.below.Goals as goal

pub returns-then-facts-ge64 : goal.returns-then-facts-ge64
returns-then-facts-ge64 c = search (rules, below-by-high)

pub returns-then-x-ne0 : goal.returns-then-x-ne0
returns-then-x-ne0 c = search (rules, below-some)

pub returns : goal.returns
returns c = search (rules, below-by-low)
