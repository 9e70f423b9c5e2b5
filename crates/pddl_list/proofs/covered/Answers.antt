-- `pddl_list::covered` meets its contract.
use borrow.Author.Rules.{rules}
use Rattle.pddl_list.proofs.Asking.{covered_not, covered_on, covered_end}
use Rattle.pddl_list.proofs.covered.Goals as goal

pub returns-then-not-stands : goal.returns-then-not-stands
returns-then-not-stands c = search (rules, covered_not)

pub loop-x-preserved : goal.loop-x-preserved
loop-x-preserved c = search (rules, covered_on)

pub returns : goal.returns
returns c = search (rules, covered_end)
