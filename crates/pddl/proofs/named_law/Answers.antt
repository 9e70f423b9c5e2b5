-- `pddl::named_law` meets its contract.
use Rattle.pddl.proofs.Stages.{law-misnamed, law-unwaited, law-beyond, law-unbuilt, law-built}
use Rattle.std.proofs.lemmas.Result.{err_from_is_err_and}
use Rattle.pddl.proofs.named_law.Goals as goal

pub returns-in_default : goal.returns-in_default
returns-in_default c =
    law-misnamed c.requires.begun _ c.count-facts.ensures _ c.facts_from-start.ensures c.in_default.ensures _ _

pub returns-then-not-within : goal.returns-then-not-within
returns-then-not-within c =
    law-unwaited c.requires.begun _ c.count-facts.ensures _ c.facts_from-start.ensures _ c.in-Some.ensures
    c.requires.masks_value.0 _ _ c.within.ensures _ c.if-not-within.true

pub returns-then-not-few : goal.returns-then-not-few
returns-then-not-few c =
    law-beyond c.requires.begun _ c.count-facts.ensures _ c.facts_from-start.ensures _ c.in-Some.ensures
    c.requires.masks_value.0 _ _ c.within.ensures c.if-not-within.false _ c.if-not-few.true

pub returns-in_err-build : goal.returns-in_err-build
returns-in_err-build c =
    let p = err_from_is_err_and c.from_residual.result c.from_residual.ensures.1 in
    rw (p.1, p.2) (law-unbuilt c.requires.begun _ c.count-facts.ensures _ c.facts_from-start.ensures _
    c.in-Some.ensures c.requires.masks_value.0 _ _ c.within.ensures c.if-not-within.false c.if-not-few.false
    c.in_err-build.ensures)

pub returns : goal.returns
returns c =
    law-built c.requires.begun _ c.count-facts.ensures _ c.facts_from-start.ensures _ c.in-Some.ensures
    c.requires.masks_value.0 _ _ c.within.ensures c.if-not-within.false c.if-not-few.false c.in_ok-build.ensures
