-- `run_plans::member_refusal` meets its contract: fitting ends give a part of the plan slice. Assumes nothing.
use native.Mathlib.Omega.{arith}
use Rattle.refusal.specs.Number.{code}
use Rattle.run_plans.proofs.Laws.{part, part-refusal}
use Rattle.run_plans.proofs.member_refusal.Goals as goal

pub beginning-from-requires : goal.beginning-from-requires
beginning-from-requires c = omega (arith, (part _ _ _ c.requires.ends_value c.args.j c.requires.j_bound).many)

pub offset_bounds-ends-j : goal.offset_bounds-ends-j
offset_bounds-ends-j c =
    let p = part _ _ _ c.requires.ends_value c.args.j c.requires.j_bound in
    omega (arith, p.many, p.begins, p.within)

pub bounds-ends-j : goal.bounds-ends-j
bounds-ends-j c =
    let p = part _ _ _ c.requires.ends_value c.args.j c.requires.j_bound in
    omega (arith, p.many, p.begins, p.within)

pub offset_bounds-plans-from : goal.offset_bounds-plans-from
offset_bounds-plans-from c =
    let p = part _ _ _ c.requires.ends_value c.args.j c.requires.j_bound in
    omega (arith, p.many, p.begins, p.within)

pub slice_bounds-plan_refusal-count : goal.slice_bounds-plan_refusal-count
slice_bounds-plan_refusal-count c =
    let p = part _ _ _ c.requires.ends_value c.args.j c.requires.j_bound in
    omega (arith, p.many, p.begins, p.within)

pub slice_bounds-plan_refusal-start : goal.slice_bounds-plan_refusal-start
slice_bounds-plan_refusal-start c =
    let p = part _ _ _ c.requires.ends_value c.args.j c.requires.j_bound in
    omega (arith, p.many, p.begins, p.within)

pub slice_bounds-plan_refusal-end : goal.slice_bounds-plan_refusal-end
slice_bounds-plan_refusal-end c =
    let p = part _ _ _ c.requires.ends_value c.args.j c.requires.j_bound in
    omega (arith, p.many, p.begins, p.within)

pub returns : goal.returns
returns c =
    let b = c.beginning-from in
    let p = part _ _ _ c.requires.ends_value c.args.j c.requires.j_bound in
    part-refusal c.args.t.now.words.now c.args.plans.now c.args.ends.now c.args.j (code c.plan_refusal.result) b.result
    b.ensures (omega (arith, p.begins, b.ensures)) c.plan_refusal.ensures
