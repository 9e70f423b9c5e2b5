-- `mask::within` meets its contract: nothing is left of a without b. Assumes nothing.
use borrow.Author.Rules.{rules}
use Rattle.mask.proofs.Halves.{within-none}
use Rattle.mask.proofs.within.Goals as goal

pub returns : goal.returns
returns c = search (rules, within-none)
