-- `mask::after` meets its contract: word by word. Assumes nothing.
use borrow.Author.Rules.{rules}
use Rattle.mask.proofs.Halves.{after_both}
use Rattle.mask.proofs.after.Goals as goal

pub returns : goal.returns
returns c = search (rules, after_both)
