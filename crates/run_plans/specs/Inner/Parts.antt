-- Parts of the plans' check.
use Rattle.std.specs.Prelude.{List, ℕ}
use Rattle.semantics.specs.Run.{plan_of, plan_refusal}

-- the refusal of member j's plan
abbrev pub member_refusal : List ℕ → List ℕ → List ℕ → ℕ → ℕ
member_refusal t plans ends j = plan_refusal t j (plan_of plans ends j)
