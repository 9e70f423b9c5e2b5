-- `pddl_named::same_facts` meets its contract.
use Rattle.pddl_named.proofs.Agreeing.{facts-first, facts-by-mask}
use Rattle.pddl_named.proofs.same_facts.Goals as goal

pub returns-then-at-c : goal.returns-then-at-c
returns-then-at-c c = facts-first c.args.shared.now.holds _ c.if-at-c.true

pub returns-then-c-le-MOST_FACTS : goal.returns-then-c-le-MOST_FACTS
returns-then-c-le-MOST_FACTS c =
    facts-by-mask c.args.shared.now.holds _ _ c.facts_from-f.ensures c.if-not-f.false c.if-c-le-MOST_FACTS.true _
    c.eq.ensures
