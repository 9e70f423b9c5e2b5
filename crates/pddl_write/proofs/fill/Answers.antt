-- `pddl_write::fill` meets its contract. Assumes nothing.
use mathlib.Core.Path.{◌∙◌}
use native.Mathlib.Omega.{arith}
use Rattle.pddl_write.proofs.Laws.{put-length, put-padded}
use Rattle.pddl_write.proofs.Bound.{text-most}
use Rattle.pddl_write.proofs.fill.Goals as goal

pub fill_from-requires : goal.fill_from-requires
fill_from-requires c =
    let end =
    put-length c.put_text-end.ensures (text-most c.args.t.now.words.now c.args.t.now.accepted c.args.part) in
    omega (arith, end, c.requires, c.put_text-end.auto.out)

pub returns : goal.returns
returns c =
    c.fill_from.ensures
    ∙ put-padded c.put_text-end.ensures (text-most c.args.t.now.words.now c.args.t.now.accepted c.args.part) c.requires
    c.put_text-end.auto.out
