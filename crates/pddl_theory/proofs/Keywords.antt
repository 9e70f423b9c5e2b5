-- The words of the grammar are spelled as their names say.
use mathlib.Core.Path.{◌≡◌, refl}
use mathlib.Core.List.{[], ◌∷◌}
use Rattle.semantics.specs.Base.{numbers_from}
use Rattle.semantics.specs.Pddl.{and', not', define', domain', problem', :predicates, :action, :parameters}
use Rattle.semantics.specs.Pddl.{:precondition}
use Rattle.semantics.specs.Pddl.{:effect, :domain, :init, :goal}
use Rattle.semantics.specs.PddlWrite.{spelt}

pub keywords : and' ∷ not' ∷ define' ∷ domain' ∷ problem' ∷ :predicates ∷ :action ∷ :parameters ∷ :precondition
    ∷ :effect ∷ :domain ∷ :init ∷ :goal ∷ []
    ≡ spelt "and" ∷ spelt "not" ∷ spelt "define" ∷ spelt "domain" ∷ spelt "problem" ∷ spelt ":predicates"
    ∷ spelt ":action" ∷ spelt ":parameters" ∷ spelt ":precondition" ∷ spelt ":effect" ∷ spelt ":domain"
    ∷ spelt ":init" ∷ spelt ":goal" ∷ []
unfolding spelt numbers_from
keywords = refl
