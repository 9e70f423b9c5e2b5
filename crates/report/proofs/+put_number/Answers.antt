-- `report::put_number` meets its contract. Assumes nothing.
use mathlib.Core.Path.{sym, subst}
use mathlib.Core.List.{List, [], ◌∷◌}
use Prim.Native.Nat.{ℕ, ◌+◌, ◌/◌, ◌%◌}
use native.Mathlib.Omega.{arith}
use Rattle.theory.proofs.Laid.{Laid, laid-append}
use Rattle.semantics.specs.Text.{digits}
use Rattle.report.specs.Inner.Put.{Room}
use Rattle.report.proofs.Laws.{room-first, room-then, digits-one, digits_more}
use Rattle.report.proofs.+put_number.Goals as goal

pub put_byte-requires : goal.put_byte-requires
put_byte-requires t c =
    subst (λ (l : List ℕ). Room c.args.out.now c.args.at l) (digits-one c.args.v (omega arith)) c.requires

pub returns-then-v-lt10 : goal.returns-then-v-lt10
returns-then-v-lt10 t c =
    subst (λ (l : List ℕ). Laid l c.args.out.now c.args.at c.put_byte.new.out c.put_byte.result)
    (sym (digits-one c.args.v (omega arith)))
    c.put_byte.ensures

pub put_number-next-requires : goal.put_number-next-requires
put_number-next-requires t c = (
  omega arith,
  room-first (digits (c.args.v / 10)) ((48 + c.args.v % 10) ∷ [])
      (subst (λ (l : List ℕ). Room c.args.out.now c.args.at l) (digits_more c.args.v (omega arith)) c.requires),
)

pub put_byte-requires-2 : goal.put_byte-requires-2
put_byte-requires-2 t c =
    room-then
    (subst (λ (l : List ℕ). Room c.args.out.now c.args.at l) (digits_more c.args.v (omega arith)) c.requires)
    c.put_number-next.ensures c.put_number-next.auto.out

pub returns : goal.returns
returns t c =
    subst (λ (l : List ℕ). Laid l c.args.out.now c.args.at c.put_byte-2.new.out c.put_byte-2.result)
    (sym (digits_more c.args.v (omega arith)))
    (laid-append c.put_number-next.ensures c.put_byte-2.ensures)
