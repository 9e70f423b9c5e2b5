-- `report::put_plans` meets its contract. Assumes nothing.
use mathlib.Core.Path.{sym}
use native.Mathlib.Omega.{arith}
use Rattle.theory.proofs.Lists.{up_to_length}
use Rattle.theory.proofs.Loops.{up_to_at}
use Rattle.report.specs.File.{plans_lines}
use Rattle.report.proofs.Laws.{stage-begin, stage-room, stage-onward, stage-end}
use Rattle.report.proofs.put_plans.Goals as goal

pub loop-i-init : goal.loop-i-init
unfolding plans_lines
loop-i-init c = search stage-begin

pub put_plan-next-requires : goal.put_plan-next-requires
put_plan-next-requires c =
    record {
      i_lt_n = omega arith;
      room =
          stage-room c.loop-i.invariant c.loop-i.i (sym (up_to_at c.args.p.now.members c.loop-i.i (omega arith)))
          (omega (arith, up_to_length c.args.p.now.members));
    }

pub loop-i-preserved : goal.loop-i-preserved
loop-i-preserved c =
    let n = c.args.p.now.members in
    stage-onward c.loop-i.invariant c.loop-i.i (sym (up_to_at n c.loop-i.i (omega arith)))
    (omega (arith, up_to_length n)) _ _ c.put_plan-next.ensures c.put_plan-next.auto.out

pub returns : goal.returns
unfolding plans_lines
returns c = stage-end c.loop-i.invariant (omega (arith, up_to_length c.args.p.now.members))
