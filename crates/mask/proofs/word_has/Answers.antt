-- `mask::word_has` meets its contract: the code is the definition. Assumes nothing.
use borrow.Author.Rules.{rules}
use Rattle.semantics.specs.Mask.{has}
use Rattle.mask.proofs.word_has.Goals as goal

pub returns : goal.returns
unfolding has
returns c = search rules
