-- `report::put_file` meets its contract. Assumes nothing.
use native.Mathlib.Omega.{arith}
use Rattle.theory.proofs.Laid.{laid-append}
use Rattle.fault.specs.Value.{verdict_of}
use Rattle.semantics.specs.Base.{numbers_from}
use Rattle.refusal.specs.Number.{numbered}
use Rattle.report.specs.File.{word}
use Rattle.report.proofs.Laws.{conflict-most}
use Rattle.report.proofs.put_file.Goals as goal

pub put_header-next-requires : goal.put_header-next-requires
unfolding word numbers_from
put_header-next-requires c = omega arith

pub put_body-requires : goal.put_body-requires
unfolding word numbers_from
put_body-requires c =
    record {
      holds = c.requires.holds;
      room =
          omega (
            arith,
            conflict-most (numbered verdict_of c.args.answer) c.args.n c.args.plans.now c.args.ends.now c.args.picks.now
                c.requires.holds (omega arith) (λ i. omega (arith, c.type_inv.plans i))
                (λ i. omega (arith, c.type_inv.picks i)),
          );
    }

pub returns : goal.returns
returns c = laid-append c.put_header-next.ensures c.put_body.ensures
