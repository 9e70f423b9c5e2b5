-- `pddl_write::put_number` meets its contract. The measure is the number. Assumes nothing.
use Rattle.std.proofs.Common.{sym, subst, arith, List, ℕ}
use Rattle.report.proofs.Laws.{digits-one, digits_more}
use Rattle.pddl_write.specs.Inner.Put.{Put}
use Rattle.pddl_write.proofs.Laws.{put_then}
use Rattle.pddl_write.proofs.+put_number.Goals as goal

pub returns-then-v-lt10 : goal.returns-then-v-lt10
returns-then-v-lt10 t c =
    subst (λ (l : List ℕ). Put l c.args.out.now c.args.at c.put_byte.new.out c.put_byte.result)
    (sym (digits-one c.args.v (omega arith)))
    c.put_byte.ensures

pub returns : goal.returns
returns t c =
    subst (λ (l : List ℕ). Put l c.args.out.now c.args.at c.put_byte-2.new.out c.put_byte-2.result)
    (sym (digits_more c.args.v (omega arith)))
    (put_then c.put_number-front.ensures c.put_byte-2.ensures)
