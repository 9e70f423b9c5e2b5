-- `pddl_named::well_named` meets its contract.
use Rattle.pddl_named.proofs.Agreeing.{well-named}
use Rattle.pddl_named.proofs.well_named.Goals as goal

pub returns : goal.returns
returns c =
    well-named c.args.shared.now.holds _ _ c.own_actions-own.ensures _ _ _ _ c.alike-alike.ensures
    c.same-named.ensures c.same_facts-start.ensures c.goal_named-known.ensures
