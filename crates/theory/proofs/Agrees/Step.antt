-- The step routine agrees with the model: go, wait and collision are what the sets of facts say.
use mathlib.Core.Path.{◌≡◌, sym, ap, ◌∙◌, fun_ext}
use mathlib.Core.Bool.{true, false, false≢true}
use mathlib.Core.List.{List}
use Prim.Native.Nat.{ℕ}
use borrow.Author.Tests.{not-true, not-false}
use Rattle.semantics.specs.Base.{gives, unless}
use Rattle.semantics.specs.Mask.{within, after}
use Rattle.semantics.specs.Task as Task
use Rattle.semantics.specs.System.{able, result_of, missing, system, waits}
use Rattle.semantics.specs.Step.{Decision, routine, step_refusal, step}
use Rattle.semantics.specs.Model.{FactSet, ◌⊆◌, apply, unmet}
use Rattle.semantics.specs.Demands.{facts_of, setting, StepAgrees}
use Rattle.theory.proofs.Attempts.{result-after, missing-without, able-sub, unable_not-sub}
use Rattle.theory.proofs.Lists.{not-true-false, apart}
use Rattle.theory.proofs.Picks as Pick
use Rattle.theory.proofs.Masks.{within-sub, sub_within, after-has, without-has, mask_ext}

pub not_within : (a b : ℕ) → within a b ≡ false → ¬ (facts_of a ⊆ facts_of b)
not_within a b e h = false≢true (sym e ∙ sub_within a b h)

pub not-sub : (a b : ℕ) → ¬ (facts_of a ⊆ facts_of b) → within a b ≡ false
not-sub a b n = not-true-false (within a b) (λ e. n (within-sub a b e))

-- masks of the same facts are equal
pub same-facts : (a b : ℕ) → facts_of a ≡ facts_of b → a ≡ b
same-facts a b e = mask_ext a b (λ f. ap (λ (A : FactSet). A f) e)

-- the facts after an action are those that the model gives
pub facts-after : (t : List ℕ) (a s : ℕ)
    → facts_of (after s (Task.add t a) (Task.del t a)) ≡ apply (setting t) a (facts_of s)
facts-after t a s = fun_ext (λ f. after-has s (Task.add t a) (Task.del t a) f)

pub facts-result : (t : List ℕ) (a s : ℕ) → able (system t) a s ≡ true
    → facts_of (result_of (system t) a s) ≡ apply (setting t) a (facts_of s)
facts-result t a s b = ap facts_of (result-after t a s b) ∙ facts-after t a s

-- and so are those that it lacks
pub facts-missing : (t : List ℕ) (a s : ℕ) → able (system t) a s ≡ false
    → facts_of (missing (system t) a s) ≡ unmet (setting t) a (facts_of s)
facts-missing t a s b = ap facts_of (missing-without t a s b) ∙ fun_ext (λ f. without-has f (Task.pre t a) s)

-- what the routine's answer says of the facts of g
pub data Decides (t : List ℕ) (a g : ℕ) : Decision ℕ → Type 0 where
  goes : (setting t).waitfor a ⊆ facts_of g → (setting t).pre a ⊆ facts_of g
      → Decides t a g (Decision.go (after g (Task.add t a) (Task.del t a)))
  waiting : ¬ ((setting t).waitfor a ⊆ facts_of g) → Decides t a g Decision.wait
  collides : {m : ℕ} → (setting t).waitfor a ⊆ facts_of g → ¬ ((setting t).pre a ⊆ facts_of g)
      → facts_of m ≡ unmet (setting t) a (facts_of g) → Decides t a g (Decision.collision m)

-- a waited-for part that holds, and one that does not
pub asks-within : (t : List ℕ) (a g : ℕ) → waits t a g ≡ false → (setting t).waitfor a ⊆ facts_of g
asks-within t a g w = within-sub (Task.wait t a) g (not-false (within (Task.wait t a) g) w)

pub waits_lack : (t : List ℕ) (a g : ℕ) → waits t a g ≡ true → ¬ ((setting t).waitfor a ⊆ facts_of g)
waits_lack t a g w = not_within (Task.wait t a) g (not-true (within (Task.wait t a) g) w)

pub decides : (t : List ℕ) (a g : ℕ) → Decides t a g (routine (system t) (waits t) a g)
decides t a g = at (routine (system t) (waits t) a g) (Pick.decided (system t) (waits t) a g)
  where
    at : (d : Decision ℕ) → Pick.Decided (system t) (waits t) a g d → Decides t a g d
    at d (Pick.Decided.waits w) = waiting (waits_lack t a g w)
    at d (Pick.Decided.goes w b) = rw (result-after t a g b) (goes (asks-within t a g w) (able-sub t a g b))
    at d (Pick.Decided.collides w b) =
        collides (asks-within t a g w) (unable_not-sub t a g b) (facts-missing t a g b)

decided : (t : List ℕ) (a g : ℕ) (d : Decision ℕ) → step t a g ≡ gives d → Decides t a g d → StepAgrees t a g
decided t a g (Decision.go s) e (goes w p) =
    record {
      goes = λ s. (
        λ h. (w, p, (let q : after g (Task.add t a) (Task.del t a) ≡ s = cc in rw (← q) (facts-after t a g))),
        λ h. e ∙ ap (λ (x : ℕ). gives (Decision.go x))
            (same-facts (after g (Task.add t a) (Task.del t a)) s (facts-after t a g ∙ sym h.2)),
      );
      waits = (λ h. absurd (apart (cc)), λ h. absurd (h w));
      collides = λ m. (λ h. absurd (apart (cc)), λ h. absurd (h.1 p));
    }
decided t a g Decision.wait e (waiting n) =
    record {
      goes = λ s. (λ h. absurd (apart (cc)), λ h. absurd (n h.0));
      waits = (λ h. n, λ h. e);
      collides = λ m. (λ h. absurd (apart (cc)), λ h. absurd (n h.0));
    }
decided t a g (Decision.collision m) e (collides w n f) =
    record {
      goes = λ s. (λ h. absurd (apart (cc)), λ h. absurd (n h.1));
      waits = (λ h. absurd (apart (cc)), λ h. absurd (h w));
      collides = λ m'. (
        λ h. (w, n, (let q : m ≡ m' = cc in rw (← q) f)),
        λ h. e ∙ ap (λ (x : ℕ). gives (Decision.collision x)) (same-facts m m' (f ∙ sym h.2)),
      );
    }

pub step_agrees_lem : (t : List ℕ) (a g : ℕ) → step_refusal t a g ≡ 0 → StepAgrees t a g
unfolding step
step_agrees_lem t a g h =
    let d = routine (system t) (waits t) a g in
    decided t a g d (ap (λ (r : ℕ). unless r (gives d)) h) (decides t a g)
