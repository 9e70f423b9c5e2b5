-- The tokens of the fixed parts.
use mathlib.Core.Path.{◌≡◌, refl}
use mathlib.Core.List.{[], ◌∷◌, ◌++◌}
use Rattle.semantics.specs.Pddl.{opening, closing, word, in_word, is_blank, small, tokens_from, tokens}
use Rattle.semantics.specs.Pddl.{define', domain', problem', :predicates, :action, :parameters, :precondition, :effect}
use Rattle.semantics.specs.Pddl.{:domain, :init, :goal}

-- (:action
pub action-opening : tokens (40 ∷ :action) ≡ opening ∷ word :action ∷ []
unfolding tokens_from in_word is_blank small
action-opening = refl

-- :parameters():precondition
pub parameters : tokens (:parameters ++ (40 ∷ 41 ∷ :precondition)) ≡ word :parameters ∷ opening ∷ closing ∷ word
    :precondition ∷ []
unfolding tokens_from in_word is_blank small
parameters = refl

-- :effect
pub effect-word : tokens :effect ≡ word :effect ∷ []
unfolding tokens_from in_word is_blank small
effect-word = refl

-- (define(domain
pub domain-opening : tokens (40 ∷ define' ++ (40 ∷ domain')) ≡ opening ∷ word define' ∷ opening ∷ word domain' ∷ []
unfolding tokens_from in_word is_blank small
domain-opening = refl

-- (define(problem
pub problem-opening : tokens (40 ∷ define' ++ (40 ∷ problem')) ≡ opening ∷ word define' ∷ opening ∷ word problem' ∷ []
unfolding tokens_from in_word is_blank small
problem-opening = refl

-- )(:predicates, )(:domain, )(:init, )(:goal
pub predicates-opening : tokens (41 ∷ 40 ∷ :predicates) ≡ closing ∷ opening ∷ word :predicates ∷ []
unfolding tokens_from in_word is_blank small
predicates-opening = refl

pub domain-naming : tokens (41 ∷ 40 ∷ :domain) ≡ closing ∷ opening ∷ word :domain ∷ []
unfolding tokens_from in_word is_blank small
domain-naming = refl

pub init-opening : tokens (41 ∷ 40 ∷ :init) ≡ closing ∷ opening ∷ word :init ∷ []
unfolding tokens_from in_word is_blank small
init-opening = refl

pub goal-opening : tokens (41 ∷ 40 ∷ :goal) ≡ closing ∷ opening ∷ word :goal ∷ []
unfolding tokens_from in_word is_blank small
goal-opening = refl
