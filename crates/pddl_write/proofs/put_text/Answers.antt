-- `pddl_write::put_text` meets its contract. Assumes nothing.
use native.Mathlib.Omega.{arith}
use Rattle.theory.proofs.Accepted.{accepted}
use Rattle.pddl_write.proofs.Laws.{across_begin, across_onward, across_end, own-few}
use Rattle.pddl_write.proofs.put_text.Goals as goal

pub loop-index-init : goal.loop-index-init
loop-index-init c = across_begin

pub invariant_of-member : goal.invariant_of-member
invariant_of-member c =
    let task = accepted c.args.t.now.words.now c.args.t.now.accepted in
    record {
      inside = omega (arith, c.members-index-end.ensures);
      few = omega (arith, task.few-members, c.members-index-end.ensures, c.loop-index.invariant.few);
    }

pub overflow_add-first : goal.overflow_add-first
overflow_add-first c =
    let task = accepted c.args.t.now.words.now c.args.t.now.accepted in
    let own = own-few c.args.t.now.words.now c.loop-index.index in
    omega (
      arith,
      task.few-members,
      task.few-actions,
      c.members-index-end.ensures,
      c.loop-index.invariant.few,
      c.count-first.ensures,
      own,
    )

pub loop-index-preserved : goal.loop-index-preserved
loop-index-preserved c =
    across_onward c.loop-index.invariant c.args.t.now.accepted (omega (arith, c.members-index-end.ensures))
    c.put_member-next.ensures c.put_member-next.auto.out c.count-first.result c.count-first.ensures

pub shape_of-out : goal.shape_of-out
shape_of-out c = c.loop-index.invariant.stage.kept

pub returns : goal.returns
returns c = across_end c.loop-index.invariant (omega (arith, c.members-index-end.ensures))
