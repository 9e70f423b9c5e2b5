-- `pddl_token::in_word` meets its contract. Assumes nothing.
use borrow.Author.Rules.{rules}
use Rattle.semantics.specs.Pddl.{in_word}
use Rattle.pddl_token.proofs.in_word.Goals as goal

pub returns : goal.returns
unfolding in_word
returns c = search rules
