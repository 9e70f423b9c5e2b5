-- Checked plans, and the slices that they are of.
use Rattle.std.specs.Prelude.{◌≡◌, List, ℕ}
use Rattle.run_plans.specs.declared.Plans.{Plans}

-- p is of these slices
abbrev pub Holds : List ℕ → List ℕ → List ℕ → Plans → Type 0
Holds t plans ends p = (p.task.words.now ≡ t) × (p.plans.now ≡ plans) × (p.ends.now ≡ ends)

-- what is said of a task, plans and ends, said of checked plans
abbrev pub of_plans {κ} : {A : Type κ} → (List ℕ → List ℕ → List ℕ → A) → Plans → A
of_plans f p = f p.task.words.now p.plans.now p.ends.now
