-- `pddl_list::alike` meets its contract.
use borrow.Author.Rules.{rules}
use Rattle.pddl_list.proofs.Asking.{comparing_begin, alike_not, alike_on, alike_longer, alike_shorter, alike_end}
use Rattle.pddl_list.proofs.alike.Goals as goal

pub loop-x-init : goal.loop-x-init
loop-x-init c = search (rules, comparing_begin)

pub returns-then-not-same : goal.returns-then-not-same
returns-then-not-same c = search (rules, alike_not)

pub loop-x-preserved : goal.loop-x-preserved
loop-x-preserved c = search (rules, alike_on)

pub returns-in-Some-None : goal.returns-in-Some-None
returns-in-Some-None c = search (rules, alike_longer)

pub returns-in-None-Some : goal.returns-in-None-Some
returns-in-None-Some c = search (rules, alike_shorter)

pub returns-in-None-None : goal.returns-in-None-None
returns-in-None-None c = search (rules, alike_end)
