-- `mask::word_after` meets its contract: the code is the definition. Assumes nothing.
use borrow.Author.Rules.{rules}
use Rattle.mask.proofs.Halves.{after-word}
use Rattle.mask.proofs.word_after.Goals as goal

pub returns : goal.returns
returns c = search (rules, after-word)
