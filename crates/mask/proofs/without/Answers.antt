-- `mask::without` meets its contract: word by word. Assumes nothing.
use borrow.Author.Rules.{rules}
use Rattle.mask.proofs.Halves.{without-both}
use Rattle.mask.proofs.without.Goals as goal

pub returns : goal.returns
returns c = search (rules, without-both)
