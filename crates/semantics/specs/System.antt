-- A planning system: what solo plans, runs and configurations need to know of a task. Which preconditions are waited
-- for stands beside it, since solo plans and moves do not depend on it. A task of document 01 is one such system.
use Rattle.std.specs.Prelude.{◌≡◌, Bool, true, false, cond, not, List, [], ◌∷◌, ℕ, ◌<◌, length, get_or, eqb}
use Rattle.semantics.specs.Mask.{within, without, after}
use Rattle.semantics.specs.Task as Task

-- what an action makes of a state: a new state, or nothing, where the state lacks preconditions; their mask
pub data Attempt (State : Type 0) : Type 0 where
  goes : State → Attempt State
  lacks : ℕ → Attempt State

-- f of the state that an attempt goes to, x where it goes nowhere
abbrev pub tried : {State B : Type 0} → Attempt State → (State → B) → B → B
tried (goes s) f x = f s
tried (lacks m) f x = x

-- the mask of what is lacking, 0 where nothing is
abbrev pub lacking : {State : Type 0} → Attempt State → ℕ
lacking (goes s) = 0
lacking (lacks m) = m

pub record System : Type 1 where
  pub State : Type 0
  pub same : State → State → Bool
  pub members : ℕ
  pub actions : ℕ
  pub owner : ℕ → ℕ
  pub init : State
  -- member i's goal holds in s
  pub goal : ℕ → State → Bool
  -- what action a makes of s
  pub act : ℕ → State → Attempt State

module _ (S : System) (a : ℕ) (s : S.State) where
  -- action a goes in s
  abbrev pub able : Bool
  able = tried (S.act a s) (λ next. true) false

  -- the state after action a; s itself where it does not go
  abbrev pub result_of : S.State
  result_of = tried (S.act a s) (λ next. next) s

  -- the mask of the preconditions of action a that s lacks; 0 where it goes
  abbrev pub missing : ℕ
  missing = lacking (S.act a s)

-- some precondition of action a that is waited for does not hold in s
abbrev pub Waits : System → Type 0
Waits S = ℕ → S.State → Bool

-- what is waited for is a precondition; actions belong to members; the test of equality is right
pub record Lawful (S : System) (waits : Waits S) : Type 0 where
  pub wait-lacks : (a : ℕ) (s : S.State) → waits a s ≡ true → able S a s ≡ false
  pub owned : (a : ℕ) → a < S.actions → S.owner a < S.members
  pub same-eq : (x y : S.State) → S.same x y ≡ true → x ≡ y
  pub same_refl : (x : S.State) → S.same x x ≡ true

-- a task's system: its states are masks
abbrev pub system : List ℕ → System
system t =
    record {
      State = ℕ;
      same = eqb;
      members = Task.members t;
      actions = Task.actions t;
      owner = Task.owner t;
      init = Task.initial t;
      goal = λ i s. within (Task.goal t i) s;
      act = λ a s.
          cond (within (Task.pre t a) s) (goes (after s (Task.add t a) (Task.del t a)))
          (lacks (without (Task.pre t a) s));
    }

abbrev pub waits : (t : List ℕ) → Waits (system t)
waits t a s = not (within (Task.wait t a) s)

-- ---- solo plans: waiting plays no part

module _ (S : System) where
  -- action a is one of member i's
  abbrev pub Own : ℕ → ℕ → Type 0
  Own i a = (a < S.actions) × (S.owner a ≡ i)

  -- the steps of the list lead member i's local copy from s to its goal
  pub data Leads (i : ℕ) : S.State → List ℕ → Type 0 where
    done : {s : S.State} → S.goal i s ≡ true → Leads i s []
    next : {s s' : S.State} {a : ℕ} {p : List ℕ} → Own i a → S.act a s ≡ goes s' → Leads i s' p → Leads i s (a ∷ p)

  -- s is live for member i: some steps lead from it to the goal
  abbrev pub Live : ℕ → S.State → Type 0
  Live i s = (p : List ℕ) × Leads i s p

  -- a plan of member i solves
  abbrev pub Solves : ℕ → List ℕ → Type 0
  Solves i p = Leads i S.init p

-- one solving plan for each member
pub record Choice (S : System) : Type 0 where
  pub plans : List (List ℕ)
  pub many : length plans ≡ S.members
  pub solving : (j : ℕ) → j < S.members → Solves S j (get_or plans j [])
