-- `report::put_plan` meets its contract. Assumes nothing.
use mathlib.Core.Path.{refl, sym, subst}
use mathlib.Core.List.{List, ◌++◌}
use Prim.Native.Nat.{ℕ}
use native.Mathlib.Omega.{arith}
use Rattle.semantics.specs.Base.{numbers_from}
use Rattle.semantics.specs.Run.{plan_of}
use Rattle.theory.proofs.Laid.{Laid, laid-append}
use Rattle.report.specs.File.{word, line, lines}
use Rattle.report.specs.Inner.Put.{Room}
use Rattle.report.proofs.Laws.{room-first, room-then, plan-part}
use Rattle.report.proofs.put_plan.Goals as goal

pub put_line-next-requires : goal.put_line-next-requires
unfolding word numbers_from
put_line-next-requires c =
    room-first (line (word "plan") c.args.i) (lines (word "action") (plan_of c.args.p.now.actions.now c.args.p.now.ends.now c.args.i))
    c.requires.room

pub put_part-requires : goal.put_part-requires
unfolding word numbers_from
put_part-requires c =
    let d = c.beginning-from in
    record {
      from_le_to = omega (arith, c.args.p.now.inside.ordered c.args.i c.requires.i_lt_n);
      to_in_bounds = omega (arith, c.args.p.now.inside.within c.args.i c.requires.i_lt_n);
      room =
          subst (λ (l : List ℕ). Room c.put_line-next.new.out c.put_line-next.result (lines (word "action") l))
          (sym (plan-part c.args.p.now.actions.now c.args.p.now.ends.now c.args.i d.result _ d.ensures refl))
          (room-then c.requires.room c.put_line-next.ensures c.put_line-next.auto.out);
    }

pub returns : goal.returns
unfolding word numbers_from
returns c =
    let d = c.beginning-from in
    subst
    (λ (l : List ℕ).
    Laid (line (word "plan") c.args.i ++ lines (word "action") l) c.args.out.now c.args.at
    c.put_part.new.out c.put_part.result)
    (plan-part c.args.p.now.actions.now c.args.p.now.ends.now c.args.i d.result _ d.ensures refl)
    (laid-append c.put_line-next.ensures c.put_part.ensures)
