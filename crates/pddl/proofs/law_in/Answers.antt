-- `pddl::law_in` meets its contract.
use Rattle.pddl.proofs.Stages.{no-first, begins}
use Rattle.pddl.proofs.law_in.Goals as goal

pub returns-in_default : goal.returns-in_default
returns-in_default c = no-first _ _ _ c.in_ok-most.ensures _ _ c.count-k.ensures c.if-k-eq0.false c.in_default.ensures

pub named_law-requires-clause-begun : goal.named_law-requires-clause-begun
named_law-requires-clause-begun c = begins c.count-k.ensures c.if-k-eq0.false _ c.in-Some.ensures _ _ c.fill-t.ensures
