-- `pddl_acts::gather` meets its contract.
use borrow.Author.Rules.{rules}
use Rattle.pddl_acts.proofs.Tallying.{tallying_begin, tallying_on, tallied}
use Rattle.pddl_acts.proofs.gather.Goals as goal

pub loop-a-init : goal.loop-a-init
loop-a-init c = search (rules, tallying_begin)

pub loop-a-preserved : goal.loop-a-preserved
loop-a-preserved c =
    tallying_on c.loop-a.invariant c.in-Some.ensures.acts c.in-Some.ensures.masked _ _
    (search rules) (search rules) c.note.ensures c.place.ensures

pub returns : goal.returns
returns c = tallied c.loop-a.invariant c.in_default.ensures.acts
