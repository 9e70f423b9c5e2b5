-- `pddl_named::facts_from` meets its contract.
use borrow.Author.Rules.{rules}
use Rattle.pddl_named.proofs.Gathering.{gathering_begin, gathering_on, gathered}
use Rattle.pddl_named.proofs.facts_from.Goals as goal

pub loop-a-init : goal.loop-a-init
loop-a-init c = search (rules, gathering_begin)

pub loop-a-preserved : goal.loop-a-preserved
loop-a-preserved c = gathering_on c.loop-a.invariant c.in-Some.ensures _ c.fact_of-f.ensures _ c.union-mask.ensures

pub returns : goal.returns
returns c = gathered c.loop-a.invariant c.in_default.ensures
