-- `run_plans::Plans::action` meets its contract: checked plans have fitting ends, and their entries are actions.
-- Assumes nothing.
use mathlib.Core.Path.{◌≡◌, sym, ap, subst, ◌∙◌}
use mathlib.Core.List.{List}
use Prim.Native.Nat.{ℕ, ◌+◌, ◌<◌}
use native.Mathlib.Omega.{arith}
use lib.ListN.{length, get_or}
use Rattle.semantics.specs.Task.{members, actions}
use Rattle.semantics.specs.Run.{beginning, plan_of, plans_refusal}
use Rattle.run_plans.proofs.Laws.{checked-part, checked-step, plan-length, plan-at}
use Rattle.run_plans.proofs.Plans.action.Goals as goal

-- the step lies in the plan slice
inside : (t plans ends : List ℕ) (j k : ℕ) → plans_refusal t plans ends ≡ 0 → j < members t
    → k < length (plan_of plans ends j) → beginning ends j + k < length plans
inside t plans ends j k h l m =
    let p = checked-part t plans ends j h l in
    omega (arith, p.begins, p.within, plan-length plans ends j p, m)

pub beginning-requires : goal.beginning-requires
beginning-requires c = omega (arith, (checked-part _ _ _ c.args.j c.args.self.now.accepted c.requires.j_bound).many)

pub overflow_add-at : goal.overflow_add-at
overflow_add-at c =
    omega (
      arith,
      inside _ _ _ _ _ c.args.self.now.accepted c.requires.j_bound c.requires.k_in_bounds,
      c.beginning.ensures,
    )

pub offset_bounds-self-at : goal.offset_bounds-self-at
offset_bounds-self-at c =
    omega (
      arith,
      inside _ _ _ _ _ c.args.self.now.accepted c.requires.j_bound c.requires.k_in_bounds,
      c.beginning.ensures,
    )

pub bounds-self-at : goal.bounds-self-at
bounds-self-at c =
    omega (
      arith,
      inside _ _ _ _ _ c.args.self.now.accepted c.requires.j_bound c.requires.k_in_bounds,
      c.beginning.ensures,
    )

pub returns : goal.returns
returns c =
    let t = c.args.self.now.task.words.now in
    let plans = c.args.self.now.plans.now in
    let ends = c.args.self.now.ends.now in
    let p = checked-part t plans ends c.args.j c.args.self.now.accepted c.requires.j_bound in
    let same =
    sym (plan-at plans ends c.args.j p c.args.k c.requires.k_in_bounds
    ∙ ap (λ (b : ℕ). get_or plans (b + c.args.k) 0) (sym c.beginning.ensures)) in record {
      value = same;
      upper_bound =
          subst (λ (x : ℕ). x < actions t) (sym same)
          (checked-step t plans ends c.args.j c.args.self.now.accepted c.requires.j_bound c.args.k
          c.requires.k_in_bounds);
    }
