-- `pddl_write::put_facts` meets its contract. Assumes nothing.
use native.Mathlib.Omega.{arith}
use Rattle.semantics.specs.Mask.{has, standing}
use Rattle.mask.specs.Number.{number}
use Rattle.pddl_write.specs.Inner.Parts.{told_as}
use Rattle.pddl_write.proofs.Laws.{facts-few, stage-begin, stage-put, stage-end, each_at, each_none}
use Rattle.pddl_write.proofs.put_facts.Goals as goal

pub loop-f-init : goal.loop-f-init
unfolding standing
loop-f-init c = stage-begin

pub put_fact-next-requires : goal.put_fact-next-requires
put_fact-next-requires c =
    omega (arith, facts-few c.args.t.now.words.now c.args.t.now.accepted, c.facts-f-end.ensures)

pub loop-f-preserved : goal.loop-f-preserved
loop-f-preserved c =
    stage-put c.loop-f.invariant _ c.put_fact-next.ensures c.put_fact-next.auto.out
    (each_at (λ g. has g (number c.args.m)) _ c.loop-f.f (told_as c.args.form) (omega (arith, c.facts-f-end.ensures)))

pub shape_of-out : goal.shape_of-out
shape_of-out c = c.loop-f.invariant.kept

pub returns : goal.returns
unfolding standing
returns c =
    stage-end c.loop-f.invariant
    (each_none (λ g. has g (number c.args.m)) _ c.loop-f.f (told_as c.args.form) (omega (arith, c.facts-f-end.ensures)))
