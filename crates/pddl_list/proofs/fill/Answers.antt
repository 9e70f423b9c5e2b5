-- `pddl_list::fill` meets its contract.
use borrow.Author.Rules.{rules}
use Rattle.pddl_list.proofs.Filling.{filling_out, filling_on, filling_end}
use Rattle.pddl_list.proofs.fill.Goals as goal

pub returns-in_default : goal.returns-in_default
returns-in_default c = filling_out c.loop-n.invariant c.in_default.ensures

pub loop-n-preserved : goal.loop-n-preserved
loop-n-preserved c = search (rules, filling_on)

pub returns : goal.returns
returns c = search (rules, filling_end)
