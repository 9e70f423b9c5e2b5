-- `run_plans::Plans::steps` meets its contract: checked plans have fitting ends. Assumes nothing.
use native.Mathlib.Omega.{arith}
use Rattle.run_plans.proofs.Laws.{checked-part, plan-length}
use Rattle.run_plans.proofs.Plans.steps.Goals as goal

pub beginning-requires : goal.beginning-requires
beginning-requires c = omega (arith, (checked-part _ _ _ c.args.j c.args.self.now.accepted c.requires).many)

pub offset_bounds-self-j : goal.offset_bounds-self-j
offset_bounds-self-j c =
    let p = checked-part _ _ _ c.args.j c.args.self.now.accepted c.requires in
    omega (arith, p.many, p.begins, p.within)

pub bounds-self-j : goal.bounds-self-j
bounds-self-j c =
    let p = checked-part _ _ _ c.args.j c.args.self.now.accepted c.requires in
    omega (arith, p.many, p.begins, p.within)

pub overflow_sub-result : goal.overflow_sub-result
overflow_sub-result c =
    let p = checked-part _ _ _ c.args.j c.args.self.now.accepted c.requires in
    omega (arith, p.many, p.begins, p.within)

pub returns : goal.returns
returns c =
    let p = checked-part _ _ _ c.args.j c.args.self.now.accepted c.requires in
    omega (arith, plan-length c.args.self.now.plans.now c.args.self.now.ends.now c.args.j p)
