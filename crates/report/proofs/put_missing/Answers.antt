-- `report::put_missing` meets its contract: fact by fact. Assumes nothing.
use mathlib.Core.Path.{sym}
use native.Mathlib.Omega.{arith}
use Rattle.theory.proofs.Lists.{up_to_length}
use Rattle.theory.proofs.Loops.{up_to_at}
use Rattle.mask.specs.Number.{number}
use Rattle.report.specs.Inner.Put.{most_facts}
use Rattle.report.proofs.Laws.{stage-room, stage-onward, missing-begin, missing-end}
use Rattle.report.proofs.put_missing.Goals as goal

pub loop-f-init : goal.loop-f-init
loop-f-init c = missing-begin (number c.args.m) c.requires

pub put_fact-next-requires : goal.put_fact-next-requires
put_fact-next-requires c =
    record {
      f_lt_most_facts = omega arith;
      room =
          stage-room c.loop-f.invariant c.loop-f.f (sym (up_to_at most_facts c.loop-f.f (omega arith)))
          (omega (arith, up_to_length most_facts));
    }

pub loop-f-preserved : goal.loop-f-preserved
loop-f-preserved c =
    stage-onward c.loop-f.invariant c.loop-f.f (sym (up_to_at most_facts c.loop-f.f (omega arith)))
    (omega (arith, up_to_length most_facts)) _ _ c.put_fact-next.ensures c.put_fact-next.auto.out

pub returns : goal.returns
returns c = missing-end (number c.args.m) c.loop-f.invariant (omega arith)
