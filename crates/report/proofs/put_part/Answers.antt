-- `report::put_part` meets its contract. Assumes nothing.
use mathlib.Core.Path.{sym, subst, ◌∙◌}
use mathlib.Core.List.{List}
use Prim.Native.Nat.{ℕ}
use Rattle.semantics.specs.Base.{numbers_from}
use Rattle.theory.proofs.Laid.{Laid}
use Rattle.report.specs.File.{word, lines}
use Rattle.report.specs.Inner.Put.{Room}
use Rattle.run_plans.proofs.Laws.{part_slice}
use Rattle.report.proofs.Laws.{same_values}
use Rattle.report.proofs.put_part.Goals as goal

pub put_lines-requires : goal.put_lines-requires
unfolding word numbers_from
put_lines-requires c =
    subst (λ (l : List ℕ). Room c.args.out.now c.args.at (lines (word "action") l))
    (sym (same_values _ ∙ part_slice c.args.from c.args.to c.args.plans.now c.requires.from_le_to)) c.requires.room

pub returns : goal.returns
unfolding word numbers_from
returns c =
    subst (λ (l : List ℕ). Laid (lines (word "action") l) c.args.out.now c.args.at
    c.put_lines.new.out c.put_lines.result)
    (same_values _ ∙ part_slice c.args.from c.args.to c.args.plans.now c.requires.from_le_to)
    c.put_lines.ensures
