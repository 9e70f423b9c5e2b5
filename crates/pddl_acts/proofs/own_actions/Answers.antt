-- `pddl_acts::own_actions` meets its contract.
use borrow.Author.Rules.{rules}
use Rattle.pddl_acts.proofs.Tallying.{an_own}
use Rattle.pddl_acts.proofs.own_actions.Goals as goal

pub returns : goal.returns
returns c = search (rules, an_own)
