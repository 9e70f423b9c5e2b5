-- Document 02, F-1: what is promised of a law that is written in PDDL. Its texts read back to the task with its
-- actions grouped by member, slices of 1,048,576 bytes hold them, and the grouped task has the law's verdict.
-- Proved in `pddl_theory` and `pddl_trip`.
use Rattle.std.specs.Prelude.{◌≡◌, ◌↔◌, List, ℕ, ◌+◌, ◌*◌, ◌≤◌, length}
use Rattle.semantics.specs.Base.{Answer, refused, gives, padded}
use Rattle.semantics.specs.Task.{row_width, members, actions, check}
use Rattle.semantics.specs.Model.{Robust}
use Rattle.semantics.specs.Verdict.{Verdict, unsolvable, not_robust, robust, Conflict, Room, verdict}
use Rattle.semantics.specs.Demands.{setting}
use Rattle.semantics.specs.Pddl.{read_pddl}
use Rattle.semantics.specs.PddlWrite.{grouped, law_text, waits_text, write_pddl}

-- a verdict without its conflict, whose actions have other numbers in the grouped task
abbrev pub class_of : Verdict Conflict → Verdict (Unit {0})
class_of (unsolvable i) = unsolvable i
class_of (not_robust c) = not_robust tt
class_of (robust n) = robust n

abbrev pub answer_class : Answer (Verdict Conflict) → Answer (Verdict (Unit {0}))
answer_class (refused k) = refused k
answer_class (gives v) = gives (class_of v)

-- for an accepted task
pub record SameVerdict (t : List ℕ) : Type 0 where
  pub accepted : check (grouped t) ≡ 0
  pub robust : Robust (setting t) ↔ Robust (setting (grouped t))
  -- with any rooms, where neither verdict is refused: both are unsolvable with the same member, both not robust, or
  -- both robust with the same number of configurations
  pub finding : (room room' : Room) (v v' : Verdict Conflict)
      → verdict t room ≡ gives v → verdict (grouped t) room' ≡ gives v' → class_of v ≡ class_of v'
  -- with the same room the same answer, refusals too, but for the conflict
  pub answer : (room : Room) → answer_class (verdict t room) ≡ answer_class (verdict (grouped t) room)

abbrev pub Groups : Type 0
Groups = (t : List ℕ) → check t ≡ 0 → SameVerdict t

-- for an accepted task
pub record Written (t : List ℕ) : Type 0 where
  -- read back into a word slice that is long enough
  pub back : (words : List ℕ) → row_width * (1 + members t + actions t) ≤ length words
      → read_pddl (law_text t) (waits_text t) words
      ≡ record { answer = gives (1 + members t + actions t); words = padded (length words) (grouped t) }
  -- slices that are never too short
  pub room : (text waits : List ℕ) → 1048576 ≤ length text → 1048576 ≤ length waits
      → write_pddl t text waits
      ≡ record {
        answer = gives (record { of_text = length (law_text t); of_waits = length (waits_text t) });
        text = padded (length text) (law_text t);
        waits = padded (length waits) (waits_text t);
      }
  pub verdict : SameVerdict t

abbrev pub Writes : Type 0
Writes = (t : List ℕ) → check t ≡ 0 → Written t
