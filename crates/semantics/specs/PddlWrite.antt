-- Document 02, F-1: the writer of laws in PDDL. The grouped task, the two texts, and the operation.
use Rattle.std.specs.Prelude.{◌||◌, ℕ, suc, ◌+◌, ◌*◌, length, take, eqb, ltb}
use mathlib.Core.List.{List, [], ◌∷◌, ◌++◌, map, flatten}
use Prim.Native.Char.{code}
use Prim.Native.String.{String, len, char_at}
use Rattle.semantics.specs.Base.{up_to, keep, ◌if◌, Answer, refused, gives, ◌leaves◌otherwise◌, padded}
use Rattle.semantics.specs.Mask.{standing}
use Rattle.semantics.specs.Words.{row_words}
use Rattle.semantics.specs.Task.{row_width, facts, members, actions, initial, goal, owner, pre, wait, add, del}
use Rattle.semantics.specs.Task.{check}
use Rattle.semantics.specs.Text.{comma, cr, lf, digits}

-- ---- the grouped task

-- member i's actions, rising
unfoldable pub own : List ℕ → ℕ → List ℕ
own t i = keep (λ a. eqb (owner t a) i) (up_to (actions t))

-- all actions, from member to member
unfoldable pub order : List ℕ → List ℕ
order t = flatten (map (own t) (up_to (members t)))

unfoldable pub row_of : List ℕ → ℕ → List ℕ
row_of t a = row_words (owner t a) (pre t a) (wait t a) (add t a) (del t a)

-- row 0 and the goal rows, then the action rows in this order
unfoldable pub grouped : List ℕ → List ℕ
grouped t = take (row_width * (1 + members t)) t ++ flatten (map (row_of t) (order t))

-- ---- texts of lists

-- the bytes of ASCII characters
unfoldable pub spelt : String → List ℕ
spelt s = map (λ i. code (char_at s i)) (up_to (len s))

-- the texts of all, one after the other
unfoldable pub each : (ℕ → List ℕ) → List ℕ → List ℕ
each text xs = flatten (map text xs)

-- the same of texts that tell a number, from k on
unfoldable pub numbered : (ℕ → ℕ → List ℕ) → ℕ → List ℕ → List ℕ
numbered text k [] = []
numbered text k (x ∷ xs) = text k x ++ numbered text (suc k) xs

-- ---- the text of the law

-- something of this number
abbrev pub told : String → ℕ → String → List ℕ
told before v after = spelt before ++ (digits v ++ spelt after)

unfoldable pub atom_text : ℕ → List ℕ
atom_text f = told " (f" f ")"

unfoldable pub negation_text : ℕ → List ℕ
negation_text f = told " (not (f" f "))"

-- what action a makes true, then what it makes false: a fact may be both
unfoldable pub effects_text : List ℕ → ℕ → List ℕ
effects_text t a =
    spelt ")\n  :effect (and"
    ++ (each atom_text (standing (facts t) (add t a))
    ++ (each negation_text (standing (facts t) (del t a))
    ++ spelt "))"))

-- action a, which is number k of the grouped task
unfoldable pub action_text : List ℕ → ℕ → ℕ → List ℕ
action_text t k a =
    told "\n (:action a" k "\n  :parameters ()\n  :precondition (and"
    ++ (each atom_text (standing (facts t) (pre t a))
    ++ effects_text t a)

-- member i's domain; k is the number of its first action
unfoldable pub domain_text : List ℕ → ℕ → ℕ → List ℕ
domain_text t k i =
    told "(define (domain member" i ")\n (:predicates"
    ++ (each atom_text (up_to (facts t))
    ++ (spelt ")"
    ++ (numbered (action_text t) k (own t i)
    ++ spelt ")\n")))

unfoldable pub goal_text : List ℕ → ℕ → List ℕ
goal_text t i = spelt ")\n (:goal (and" ++ (each atom_text (standing (facts t) (goal t i)) ++ spelt ")))\n")

unfoldable pub problem_text : List ℕ → ℕ → List ℕ
problem_text t i =
    told "(define (problem member" i ")"
    ++ (told "\n (:domain member" i ")\n (:init"
    ++ (each atom_text (standing (facts t) (initial t))
    ++ goal_text t i))

unfoldable pub member_text : List ℕ → ℕ → ℕ → List ℕ
member_text t k i = domain_text t k i ++ problem_text t i

-- the members is, of which the first has action k as its first
unfoldable pub members_text : List ℕ → ℕ → List ℕ → List ℕ
members_text t k [] = []
members_text t k (i ∷ is) = member_text t k i ++ members_text t (k + length (own t i)) is

unfoldable pub law_text : List ℕ → List ℕ
law_text t = members_text t 0 (up_to (members t))

-- ---- the text of the waits

-- action number k waits for fact f
unfoldable pub wait_text : ℕ → ℕ → List ℕ
wait_text k f = digits k ++ (comma ∷ (digits f ++ (cr ∷ lf ∷ [])))

-- the waits of action a, which is number k of the grouped task
unfoldable pub action_waits : List ℕ → ℕ → ℕ → List ℕ
action_waits t k a = each (wait_text k) (standing (facts t) (wait t a))

unfoldable pub waits_text : List ℕ → List ℕ
waits_text t = numbered (action_waits t) 0 (order t)

-- ---- the writer

-- the lengths of the two texts
pub record Lengths : Type 0 where
  pub of_text : ℕ
  pub of_waits : ℕ

-- the operation: its answer, and both slices after it
pub record Writing : Type 0 where
  pub answer : Answer Lengths
  pub text : List ℕ
  pub waits : List ℕ

-- the texts are free in spelling, and every accepted task is within the subset: 16 has no task yet. A refusal writes
-- nothing
unfoldable pub write_pddl : List ℕ → List ℕ → List ℕ → Writing
write_pddl t text waits =
    let law = law_text t in
    let its = waits_text t in
    let left : ℕ → Writing = λ r. record { answer = refused r; text = text; waits = waits } in
    check t leaves left otherwise
    (14 if (ltb (length text) (length law) || ltb (length waits) (length its))) leaves left otherwise
    record {
      answer = gives (record { of_text = length law; of_waits = length its });
      text = padded (length text) law;
      waits = padded (length waits) its;
    }
