-- `pddl_write::put` meets its contract. Assumes nothing.
use Prim.Native.Nat.{◌≤◌}
use native.Mathlib.Omega.{arith}
use lib.ListN.{length, drop_of_length-le}
use Rattle.pddl_write.proofs.Laws.{stage-begin, stage-put, stage-end, from_at}
use Rattle.pddl_write.proofs.put.Goals as goal

pub loop-byte-init : goal.loop-byte-init
loop-byte-init c = stage-begin

pub loop-byte-preserved : goal.loop-byte-preserved
loop-byte-preserved c =
    stage-put c.loop-byte.invariant _ c.put_byte-next.ensures c.put_byte-next.auto.out
    (from_at c.args.bytes.now c.loop-byte.byte-index (omega arith))

pub shape_of-out : goal.shape_of-out
shape_of-out c = c.loop-byte.invariant.kept

pub returns : goal.returns
returns c =
    let past : length c.args.bytes.now ≤ c.loop-byte.byte-index = omega arith in
    stage-end c.loop-byte.invariant (drop_of_length-le c.args.bytes.now past)
