-- Social laws in MA-STRIPS, by themselves: source document 000 for the setting, projections and individual solutions;
-- 003 for the scheduler, collision and deadlock; 001 for a goal missed at the end. Facts are numbers, states are sets
-- of facts; nothing here knows of masks. Where the planning compilation of 000 differs from this execution model, this
-- decides.
use Rattle.std.specs.Prelude.{◌≡◌, Bool, true, cond, not, ◌&&◌, ◌||◌, ◌⊎◌, List, [], ◌∷◌, ℕ, ◌<◌, length, get_or, eqb}

abbrev pub FactSet : Type 0
FactSet = ℕ → Bool

infix 40 ◌⊆◌
abbrev pub ◌⊆◌ : FactSet → FactSet → Type 0
A ⊆ B = (f : ℕ) → A f ≡ true → B f ≡ true

-- ⟨F, {A_i}, I, {G_i}⟩; each action with preconditions, those of them that are waited for, add and delete effects
pub record Setting : Type 1 where
  pub agents : ℕ
  pub ActionOf : ℕ → ℕ → Type 0
  pub init : FactSet
  pub goal : ℕ → FactSet
  pub pre : ℕ → FactSet
  pub waitfor : ℕ → FactSet
  pub add : ℕ → FactSet
  pub del : ℕ → FactSet

module _ (Π : Setting) where
  -- (s \ del(a)) ∪ add(a)
  abbrev pub apply : ℕ → FactSet → FactSet
  apply a s f = s f && not (Π.del a f) || Π.add a f

  -- agent i alone executes the actions from the first state to the last: its projection
  pub data Executes (i : ℕ) : FactSet → List ℕ → FactSet → Type 0 where
    none : {s : FactSet} → Executes i s [] s
    then : {s s' : FactSet} {a : ℕ} {π : List ℕ} → Π.ActionOf i a → Π.pre a ⊆ s → Executes i (apply a s) π s'
        → Executes i s (a ∷ π) s'

  -- an individual solution
  abbrev pub Solution : ℕ → List ℕ → Type 0
  Solution i π = (s : FactSet) × Executes i Π.init π s × (Π.goal i ⊆ s)

  -- the state of the world and what is left of each agent's plan
  pub record World : Type 0 where
    pub state : FactSet
    pub left : ℕ → List ℕ

  abbrev pub leaving : ℕ → List ℕ → (ℕ → List ℕ) → ℕ → List ℕ
  leaving i π left j = cond (eqb j i) π (left j)

  -- the scheduler chooses agent i, whose pending action does not wait, and the action is executed
  pub data Acts (w : World) (i : ℕ) : World → Type 0 where
    acts : {a : ℕ} {π : List ℕ} → i < Π.agents → w.left i ≡ a ∷ π → Π.waitfor a ⊆ w.state → Π.pre a ⊆ w.state
        → Acts w i (record { state = apply a w.state; left = leaving i π w.left })

  -- the scheduler chooses agent i, whose pending action does not wait, and a precondition does not hold
  pub data Collides (w : World) (i : ℕ) : Type 0 where
    collides : {a : ℕ} {π : List ℕ} → i < Π.agents → w.left i ≡ a ∷ π → Π.waitfor a ⊆ w.state
        → ¬ (Π.pre a ⊆ w.state) → Collides w i

  -- the preconditions of action a that do not hold in s
  abbrev pub unmet : ℕ → FactSet → FactSet
  unmet a s f = Π.pre a f && not (s f)

  -- agent i's pending action lacks just these facts
  abbrev pub Lacks : World → ℕ → FactSet → Type 0
  Lacks w i m = (a : ℕ) × (π : List ℕ) × (w.left i ≡ a ∷ π) × (m ≡ unmet a w.state)

  -- agent i's pending action waits for a precondition
  pub data Waiting (w : World) (i : ℕ) : Type 0 where
    waiting : {a : ℕ} {π : List ℕ} → w.left i ≡ a ∷ π → ¬ (Π.waitfor a ⊆ w.state) → Waiting w i

  -- the agents chosen, one after the other
  pub data Execution : World → List ℕ → World → Type 0 where
    unmoved : {w : World} → Execution w [] w
    chosen : {w w' w'' : World} {i : ℕ} {is : List ℕ} → Acts w i w' → Execution w' is w'' → Execution w (i ∷ is) w''

  -- all agents have executed their plans
  abbrev pub Ended : World → Type 0
  Ended w = (i : ℕ) → i < Π.agents → w.left i ≡ []

  -- every agent is waiting or has ended, and some agent is waiting
  abbrev pub Deadlock : World → Type 0
  Deadlock w = ((i : ℕ) → i < Π.agents → Waiting w i ⊎ (w.left i ≡ [])) × (i : ℕ) × (i < Π.agents) × Waiting w i

  abbrev pub Success : World → Type 0
  Success w = Ended w × ((i : ℕ) → i < Π.agents → Π.goal i ⊆ w.state)

  -- all plans are done, and agent i is the first whose goal does not hold
  abbrev pub Missed : World → ℕ → Type 0
  Missed w i = Ended w × (i < Π.agents) × ¬ (Π.goal i ⊆ w.state) × ((j : ℕ) → j < i → Π.goal j ⊆ w.state)

  -- the scheduler can go on
  abbrev pub GoesOn : World → Type 0
  GoesOn w = (i : ℕ) × (Collides w i ⊎ ((w' : World) × Acts w i w'))

  -- ---- robustness

  -- the world at the start, with one plan for each agent
  abbrev pub begin : List (List ℕ) → World
  begin plans = record { state = Π.init; left = λ j. get_or plans j [] }

  -- one individual solution for each agent
  pub record Solutions (plans : List (List ℕ)) : Type 0 where
    pub many : length plans ≡ Π.agents
    pub each : (i : ℕ) → i < Π.agents → Solution i (get_or plans i [])

  -- no pending action collides, there is no deadlock, and where all plans are done all goals hold
  pub record Faultless (w : World) : Type 0 where
    pub no-collision : (i : ℕ) → ¬ Collides w i
    pub no-deadlock : ¬ Deadlock w
    pub no_miss : Ended w → (i : ℕ) → i < Π.agents → Π.goal i ⊆ w.state

  -- rational robustness (000), a goal missed at the end being a fault too (001): whatever individual solutions the
  -- agents choose and whatever the scheduler does, no world of the execution shows a fault
  abbrev pub Robust : Type 0
  Robust = (plans : List (List ℕ)) → Solutions plans → (is : List ℕ) (w : World) → Execution (begin plans) is w
      → Faultless w
