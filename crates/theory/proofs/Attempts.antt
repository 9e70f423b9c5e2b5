-- An attempt of an action, taken apart; and what a task's attempts say of masks. Assumes nothing.
use mathlib.Core.Path.{◌≡◌, refl, sym, ◌∙◌}
use mathlib.Core.Bool.{Bool, true, false, cond, false≢true}
use mathlib.Core.List.{List}
use Prim.Native.Nat.{ℕ}
use Rattle.semantics.specs.Mask.{within, without, after}
use Rattle.semantics.specs.Task.{pre, add, del}
use Rattle.semantics.specs.System.{Attempt, goes, lacks, tried, lacking, System, able, result_of, missing, system}
use Rattle.semantics.specs.Model.{◌⊆◌}
use Rattle.semantics.specs.Demands.{facts_of, setting}
use Rattle.theory.proofs.Masks.{within-sub, sub_within}

module _ (S : System) (a : ℕ) (s : S.State) where
  pub goes-able : {y : S.State} → S.act a s ≡ goes y → able S a s ≡ true
  goes-able e = rw e

  pub goes-result : {y : S.State} → S.act a s ≡ goes y → result_of S a s ≡ y
  goes-result e = rw e

  pub able-goes : able S a s ≡ true → S.act a s ≡ goes (result_of S a s)
  able-goes = at (S.act a s)
    where
      at : (x : Attempt S.State) → tried x (λ n. true) false ≡ true → x ≡ goes (tried x (λ n. n) s)
      at (goes n) h = refl
      at (lacks m) h = absurd (false≢true h)

  pub unable_lacks : able S a s ≡ false → S.act a s ≡ lacks (missing S a s)
  unable_lacks = at (S.act a s)
    where
      at : (x : Attempt S.State) → tried x (λ n. true) false ≡ false → x ≡ lacks (lacking x)
      at (goes n) h = absurd (false≢true (sym h))
      at (lacks m) h = refl

-- ---- a task's attempts: preconditions within the mask, then what is deleted and added

module _ (t : List ℕ) (a s : ℕ) where
  pub able-within : able (system t) a s ≡ within (pre t a) s
  able-within = at (within (pre t a) s)
    where
      at : (b : Bool)
          → tried (cond b (goes (after s (add t a) (del t a))) (lacks (without (pre t a) s))) (λ n. true) false ≡ b
      at true = refl
      at false = refl

  pub result-after : able (system t) a s ≡ true → result_of (system t) a s ≡ after s (add t a) (del t a)
  result-after h = let e = sym able-within ∙ h in rw e

  pub missing-without : able (system t) a s ≡ false → missing (system t) a s ≡ without (pre t a) s
  missing-without h = let e = sym able-within ∙ h in rw e

  pub within-goes : within (pre t a) s ≡ true → (system t).act a s ≡ goes (after s (add t a) (del t a))
  within-goes h = rw h

  -- the same of the sets of facts
  pub able-sub : able (system t) a s ≡ true → (setting t).pre a ⊆ facts_of s
  able-sub h = within-sub (pre t a) s (sym able-within ∙ h)

  pub sub-able : (setting t).pre a ⊆ facts_of s → able (system t) a s ≡ true
  sub-able h = able-within ∙ sub_within (pre t a) s h

  pub unable_not-sub : able (system t) a s ≡ false → ¬ ((setting t).pre a ⊆ facts_of s)
  unable_not-sub e h = false≢true (sym e ∙ sub-able h)
