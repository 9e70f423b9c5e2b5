-- The paper's attempt and decision for each case of the results and enums.
use Rattle.std.specs.Prelude.{ℕ, Result, Ok, Err}
use Rattle.semantics.specs.System as System
use Rattle.semantics.specs.Step as Paper
use Rattle.mask.specs.Number.{number, shared_number}
use Rattle.mask.specs.declared.Mask.{Mask}
use Rattle.step.specs.declared.Decision.{Decision}
use Rattle.step.specs.declared.Decision.TheVariants.{Go, Wait, Collision}

-- a new copy, whose number f tells, or the preconditions that are missing
abbrev pub attempt_of : {T : Type 0} → (T → ℕ) → Result T Mask → System.Attempt ℕ
attempt_of f (Ok x) = System.goes (f x)
attempt_of f (Err m) = System.lacks (number m)

abbrev pub decision_of : Decision → Paper.Decision ℕ
decision_of (Go g) = Paper.go (shared_number g)
decision_of Wait = Paper.wait
decision_of (Collision m) = Paper.collision (number m)
