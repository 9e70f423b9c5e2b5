-- `pddl_acts::place` meets its contract.
use borrow.Author.Rules.{rules}
use Rattle.pddl_acts.proofs.Tallying.{placed_in, placed_full}
use Rattle.pddl_acts.proofs.place.Goals as goal

pub returns-then-number-lt-MOST_ACTIONS : goal.returns-then-number-lt-MOST_ACTIONS
returns-then-number-lt-MOST_ACTIONS c = search (rules, placed_in)

pub returns-else-number-lt-MOST_ACTIONS : goal.returns-else-number-lt-MOST_ACTIONS
returns-else-number-lt-MOST_ACTIONS c = search (rules, placed_full)
