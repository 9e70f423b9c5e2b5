-- `pddl_write::put_actions` meets its contract. Assumes nothing.
use native.Mathlib.Omega.{arith}
use Rattle.theory.proofs.Accepted.{accepted}
use Rattle.semantics.specs.PddlWrite.{own}
use Rattle.pddl_write.proofs.Laws.{turns_begin, turns_onward, turns_end}
use Rattle.pddl_write.proofs.put_actions.Goals as goal

pub loop-index-init : goal.loop-index-init
loop-index-init c = turns_begin

pub overflow_add-number : goal.overflow_add-number
overflow_add-number c =
    let task = accepted c.args.m.now.task.words.now c.args.m.now.task.accepted in
    omega (
      arith,
      task.few-actions,
      c.args.m.now.few,
      c.actions-index-end.ensures,
      c.loop-index.invariant.few,
      c.owned-number.ensures.upper_bound,
    )

pub loop-index-preserved : goal.loop-index-preserved
loop-index-preserved c =
    turns_onward c.loop-index.invariant (omega (arith, c.actions-index-end.ensures))
    c.put_owned-next.ensures c.put_owned-next.auto.out c.owned-number.result c.owned-number.ensures.value

pub shape_of-out : goal.shape_of-out
shape_of-out c = c.loop-index.invariant.stage.kept

pub returns : goal.returns
unfolding own
returns c = turns_end c.loop-index.invariant (omega (arith, c.actions-index-end.ensures))
