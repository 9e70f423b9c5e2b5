-- `report::put_short` meets its contract. Assumes nothing.
use native.Mathlib.Omega.{arith}
use Rattle.report.proofs.Laws.{line-room, line-short}
use Rattle.report.proofs.put_short.Goals as goal

pub put_line-requires : goal.put_line-requires
put_line-requires c =
    line-room c.args.out.now c.args.at c.args.word.now c.args.number c.requires.letters c.ranges.number.fits
    c.requires.room

pub returns-clause-upper_bound : goal.returns-clause-upper_bound
returns-clause-upper_bound c =
    omega (arith, c.put_line.ensures.ends, line-short c.args.word.now c.args.number c.requires.letters c.ranges.number.fits)
