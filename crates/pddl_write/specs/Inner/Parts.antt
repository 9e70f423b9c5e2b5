-- The two texts, the law and the waits, and how a fact is told in them.
use Rattle.std.specs.Prelude.{List, ℕ}
use Rattle.semantics.specs.PddlWrite.{own, numbered, atom_text, negation_text, wait_text}
use Rattle.semantics.specs.PddlWrite.{action_text, member_text, law_text, action_waits, waits_text}
use Rattle.pddl_write.specs.declared.Form.TheVariants.{Atom, Negation, Wait}
use Rattle.pddl_write.specs.declared.Form.{Form}
use Rattle.pddl_write.specs.declared.Part.TheVariants.{Law, Waits}
use Rattle.pddl_write.specs.declared.Part.{Part}

abbrev pub told_as : Form → ℕ → List ℕ
told_as Atom = atom_text
told_as Negation = negation_text
told_as (Wait k) = wait_text k

-- what it has of an action of a task, which is number k of the grouped task
abbrev pub of_action : Part → List ℕ → ℕ → ℕ → List ℕ
of_action Law = action_text
of_action Waits = action_waits

-- what it has of a member, whose first action is number k
abbrev pub of_member : Part → List ℕ → ℕ → ℕ → List ℕ
of_member Law t k i = member_text t k i
of_member Waits t k i = numbered (action_waits t) k (own t i)

abbrev pub text_of : Part → List ℕ → List ℕ
text_of Law = law_text
text_of Waits = waits_text
