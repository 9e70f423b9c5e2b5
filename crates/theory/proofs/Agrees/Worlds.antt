-- The model's scheduler: which agents can be chosen, and what excludes what.
use mathlib.Core.Path.{◌≡◌, sym, ap, subst, ◌∙◌}
use mathlib.Core.Logic.{◌⊎◌, inl, inr}
use mathlib.Core.List.{List, [], ◌∷◌}
use Prim.Native.Nat.{ℕ, ◌<◌}
use Rattle.semantics.specs.Model.{Setting, ◌⊆◌, World, Acts, acts, Collides, collides, Waiting, waiting, Ended}
use Rattle.semantics.specs.Model.{FactSet, unmet, Lacks, Deadlock, GoesOn}
use Rattle.semantics.specs.Demands.{Stays}
use Rattle.theory.proofs.Lists.{apart}

module _ (Π : Setting) where
  -- the scheduler can choose agent i
  abbrev pub Moves : World Π → ℕ → Type 0
  Moves w i = Collides Π w i ⊎ ((w' : World Π) × Acts Π w i w')

  module _ (w : World Π) (i : ℕ) where
    -- the pending action of an agent that can be chosen
    moves-with : Moves w i → (i < Π.agents) × (a : ℕ) × (π : List ℕ) × (w.left i ≡ a ∷ π) × (Π.waitfor a ⊆ w.state)
    moves-with (inl (collides {a} {π} l e h n)) = (l, a, π, e, h)
    moves-with (inr (w', acts {a} {π} l e h p)) = (l, a, π, e, h)

    pub moves_agent : Moves w i → i < Π.agents
    moves_agent m = (moves-with m).0

    pub moves-stays : Moves w i → Stays Π w i → ⊥
    moves-stays m (inl (waiting {a} {π} e n)) =
        let (l, b, ρ, q, h) = moves-with m in
        let s : b ≡ a = cc in
        n (subst (λ (x : ℕ). Π.waitfor x ⊆ w.state) s h)
    moves-stays m (inr e) = let (l, b, ρ, q, h) = moves-with m in apart (cc)

    pub waiting-left : Waiting Π w i → w.left i ≡ [] → ⊥
    waiting-left (waiting e n) q = apart (cc)

    pub acts-collides : {w' : World Π} → Acts Π w i w' → Collides Π w i → ⊥
    acts-collides (acts {a} l e h p) (collides {a = b} l' e' h' n) =
        let s : a ≡ b = cc in
        n (subst (λ (x : ℕ). Π.pre x ⊆ w.state) s p)

    pub acts_unique : {w₁ w₂ : World Π} → Acts Π w i w₁ → Acts Π w i w₂ → w₁ ≡ w₂
    acts_unique (acts {a} {π} l e h p) (acts {a = b} {π = ρ} l' e' h' p') =
        let s : a ≡ b = cc in
        let q : π ≡ ρ = cc in
        rw (s, q)

    -- a pending action lacks the facts of one set
    pub lacks_unique : {m m' : FactSet} → Lacks Π w i m → Lacks Π w i m' → m ≡ m'
    lacks_unique (a, π, e, q) (b, ρ, e', q') =
        let s : a ≡ b = cc in
        q ∙ ap (λ (x : ℕ). unmet Π x w.state) s ∙ sym q'

  pub ended-goes : (w : World Π) → Ended Π w → GoesOn Π w → ⊥
  ended-goes w e (i, m) = moves-stays w i m (inr (e i (moves_agent w i m)))

  pub deadlock-goes : (w : World Π) → Deadlock Π w → GoesOn Π w → ⊥
  deadlock-goes w d (i, m) = moves-stays w i m (d.0 i (moves_agent w i m))
