-- `pddl::names_hold` meets its contract.
use borrow.Author.Rules.{rules}
use Rattle.pddl.proofs.Stages.{names_unknown}
use Rattle.pddl.proofs.names_hold.Goals as goal

pub returns-then-not-known : goal.returns-then-not-known
returns-then-not-known c = search (rules, names_unknown)
