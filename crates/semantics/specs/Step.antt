-- Document 01, "Step": the one routine that says go, wait or collision.
use Rattle.std.specs.Prelude.{Bool, true, false, cond, not, List, ℕ, ltb}
use Rattle.semantics.specs.Base.{◌if◌, ◌else◌, Answer, gives, unless}
use Rattle.semantics.specs.Mask.{below}
use Rattle.semantics.specs.Task.{check, facts, actions}
use Rattle.semantics.specs.System.{Attempt, goes, lacks, System, Waits, system, waits}

-- what a pending action answers at a shared copy; a collision with the mask of the preconditions that are missing (F-6)
pub data Decision (State : Type 0) : Type 0 where
  go : State → Decision State
  wait : Decision State
  collision : ℕ → Decision State

abbrev pub is_wait : {State : Type 0} → Decision State → Bool
is_wait (go s) = false
is_wait wait = true
is_wait (collision m) = false

abbrev pub is_collision : {State : Type 0} → Decision State → Bool
is_collision (go s) = false
is_collision wait = false
is_collision (collision m) = true

-- the mask of a collision, 0 where there is none
abbrev pub missing_in : {State : Type 0} → Decision State → ℕ
missing_in (go s) = 0
missing_in wait = 0
missing_in (collision m) = m

-- the attempt of an action that does not wait
abbrev pub attempted : {State : Type 0} → Attempt State → Decision State
attempted (goes s) = go s
attempted (lacks m) = collision m

-- action a at the shared copy g
unfoldable pub routine : (S : System) → Waits S → ℕ → S.State → Decision S.State
routine S waits a g = cond (waits a g) wait (attempted (S.act a g))

abbrev pub step_refusal : List ℕ → ℕ → ℕ → ℕ
step_refusal t a g = check t else (7 if not (ltb a (actions t))) else (4 if not (below (facts t) g))

-- the operation
unfoldable pub step : List ℕ → ℕ → ℕ → Answer (Decision ℕ)
step t a g = unless (step_refusal t a g) (gives (routine (system t) (waits t) a g))
