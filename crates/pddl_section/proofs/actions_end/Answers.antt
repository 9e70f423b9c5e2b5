-- `pddl_section::actions_end` meets its contract: each step, or that none is there.
use borrow.Author.Rules.{rules}
use Rattle.pddl_section.proofs.Lists.{acting_on, acting_end}
use Rattle.pddl_section.proofs.actions_end.Goals as goal

pub loop-a-preserved : goal.loop-a-preserved
loop-a-preserved c = search (rules, acting_on)

pub returns : goal.returns
returns c = search (rules, acting_end)
