-- `pddl_words::union` meets its contract.
use borrow.Author.Rules.{rules}
use Rattle.pddl_words.proofs.Facts.{with_none}
use Rattle.pddl_words.proofs.union.Goals as goal

pub returns : goal.returns
returns c = search (rules, with_none)
