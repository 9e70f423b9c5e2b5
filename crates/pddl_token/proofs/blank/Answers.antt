-- `pddl_token::blank` meets its contract. Assumes nothing.
use borrow.Author.Rules.{rules}
use Rattle.semantics.specs.Pddl.{is_blank}
use Rattle.pddl_token.proofs.blank.Goals as goal

pub returns : goal.returns
unfolding is_blank
returns c = search rules
