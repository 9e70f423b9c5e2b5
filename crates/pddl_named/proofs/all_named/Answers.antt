-- `pddl_named::all_named` meets its contract.
use native.Mathlib.Omega.{arith}
use Rattle.pddl_named.proofs.Passing.{passing_begin, passing_room, passing_count, passing_owner, passing_on}
use Rattle.pddl_named.proofs.Passing.{passing_not, passing_end}
use Rattle.pddl_named.proofs.Agreeing.{not-false, not-true}
use Rattle.pddl_named.proofs.all_named.Goals as goal

pub loop-m-init : goal.loop-m-init
loop-m-init c = passing_begin _ _ _ _ _ _ (omega arith)

pub well_named-own-requires-clause-actions_in_bounds : goal.well_named-own-requires-clause-actions_in_bounds
well_named-own-requires-clause-actions_in_bounds c = passing_room c.loop-m.invariant c.in-Some.ensures

pub overflow_add-count : goal.overflow_add-count
overflow_add-count c =
    passing_count c.loop-m.invariant c.in-Some.ensures _ _ c.well_named-own.auto.table c.well_named-own.auto.goals
    _ c.well_named-own.ensures

pub overflow_add-owner : goal.overflow_add-owner
overflow_add-owner c = passing_owner c.loop-m.invariant c.in-Some.ensures

pub loop-m-preserved : goal.loop-m-preserved
loop-m-preserved c =
    passing_on c.loop-m.invariant c.in-Some.ensures _ _ c.well_named-own.auto.table c.well_named-own.auto.goals _
    c.well_named-own.ensures (not-false _ c.if-not-own.false)

pub returns-then-not-own : goal.returns-then-not-own
returns-then-not-own c =
    passing_not c.loop-m.invariant c.in-Some.ensures _ _ c.well_named-own.auto.table c.well_named-own.auto.goals _
    c.well_named-own.ensures (not-true _ c.if-not-own.true)

pub returns : goal.returns
returns c = passing_end c.loop-m.invariant c.in_default.ensures
