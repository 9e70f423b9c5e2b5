-- `pddl_list::distinct_in` meets its contract.
use borrow.Author.Rules.{rules}
use Rattle.pddl_list.proofs.Twice.{asking_found, asking_on, asking_end}
use Rattle.pddl_list.proofs.distinct_in.Goals as goal

pub returns-then-is_some : goal.returns-then-is_some
returns-then-is_some c = search (rules, asking_found)

pub loop-k-preserved : goal.loop-k-preserved
loop-k-preserved c = search (rules, asking_on)

pub returns : goal.returns
returns c = search (rules, asking_end)
