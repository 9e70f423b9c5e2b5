-- `pddl_words::put_head` meets its contract.
use borrow.Author.Rules.{rules}
use Rattle.pddl_words.proofs.Rows.{head-put}
use Rattle.pddl_words.proofs.put_head.Goals as goal

pub returns : goal.returns
returns c = search (rules, head-put)
