-- `pddl_list::distinct` meets its contract.
use borrow.Author.Rules.{rules}
use Rattle.pddl_list.proofs.Asking.{distinct-not, distinct-on, distinct-end}
use Rattle.pddl_list.proofs.distinct.Goals as goal

pub returns-then-stands : goal.returns-then-stands
returns-then-stands c = search (rules, distinct-not)

pub loop-a-preserved : goal.loop-a-preserved
loop-a-preserved c = search (rules, distinct-on)

pub returns : goal.returns
returns c = search (rules, distinct-end)
