-- Actions of a setting under other numbers: what the agents can do alone and what the scheduler can do stay the same,
-- and so does robustness. Assumes nothing.
use mathlib.Core.Path.{◌≡◌, refl, sym, ap, ap₂, subst, fun_ext, ◌∙◌}
use mathlib.Core.Bool.{Bool, true, false, cond, not, ◌&&◌, ◌||◌}
use mathlib.Core.Logic.{inl, inr, ⊎_elim}
use mathlib.Core.List.{List, [], ◌∷◌, map}
use Prim.Native.Nat.{ℕ, zero, suc, ◌<◌}
use lib.ListN.{get_or, length-map}
use lib.Dec.{eqb}
use Rattle.semantics.specs.Model.{FactSet, ◌⊆◌, Setting, apply, Executes, none, then, Solution, World, Acts, acts}
use Rattle.semantics.specs.Model.{Collides, collides, Waiting, waiting, Execution, unmoved, chosen, Deadlock}
use Rattle.semantics.specs.Model.{begin, Solutions, Faultless, Robust}

-- ρ turns the actions of Π into those of Π'
pub record Renames (Π Π' : Setting) (ρ : ℕ → ℕ) : Type 0 where
  pub agents : Π.agents ≡ Π'.agents
  pub init : Π.init ≡ Π'.init
  pub goal : (i : ℕ) → i < Π.agents → Π.goal i ≡ Π'.goal i
  pub owned : (i a : ℕ) → Π.ActionOf i a → Π'.ActionOf i (ρ a)
  pub pre : (a : ℕ) → Π.pre a ≡ Π'.pre (ρ a)
  pub waitfor : (a : ℕ) → Π.waitfor a ≡ Π'.waitfor (ρ a)
  pub add : (a : ℕ) → Π.add a ≡ Π'.add (ρ a)
  pub del : (a : ℕ) → Π.del a ≡ Π'.del (ρ a)

map-get_d : {A B : Type 0} (f : A → B) (xs : List A) (k : ℕ) (d : A) → f (get_or xs k d) ≡ get_or (map f xs) k (f d)
map-get_d f [] k d = refl
map-get_d f (x ∷ xs) zero d = refl
map-get_d f (x ∷ xs) (suc k) d = map-get_d f xs k d

map-cond : {A B : Type 0} (f : A → B) (b : Bool) (x y : A) → f (cond b x y) ≡ cond b (f x) (f y)
map-cond f true x y = refl
map-cond f false x y = refl

module _ (Π Π' : Setting) (ρ : ℕ → ℕ) (r : Renames Π Π' ρ) where
  forth : {i : ℕ} → i < Π.agents → i < Π'.agents
  forth {i} l = subst (λ (n : ℕ). i < n) r.agents l

  back : {i : ℕ} → i < Π'.agents → i < Π.agents
  back {i} l = subst (λ (n : ℕ). i < n) (sym r.agents) l

  -- what an action waits for, and its preconditions, hold in the same states
  waits-renamed : (a : ℕ) {s : FactSet} → Π.waitfor a ⊆ s → Π'.waitfor (ρ a) ⊆ s
  waits-renamed a {s} h = subst (λ (p : FactSet). p ⊆ s) (r.waitfor a) h

  renamed-waits : (a : ℕ) {s : FactSet} → Π'.waitfor (ρ a) ⊆ s → Π.waitfor a ⊆ s
  renamed-waits a {s} h = subst (λ (p : FactSet). p ⊆ s) (sym (r.waitfor a)) h

  pre-renamed : (a : ℕ) {s : FactSet} → Π.pre a ⊆ s → Π'.pre (ρ a) ⊆ s
  pre-renamed a {s} h = subst (λ (p : FactSet). p ⊆ s) (r.pre a) h

  renamed-pre : (a : ℕ) {s : FactSet} → Π'.pre (ρ a) ⊆ s → Π.pre a ⊆ s
  renamed-pre a {s} h = subst (λ (p : FactSet). p ⊆ s) (sym (r.pre a)) h

  apply-renamed : (a : ℕ) (s : FactSet) → apply Π a s ≡ apply Π' (ρ a) s
  apply-renamed a s =
      ap₂ {C = FactSet} (λ (add del : FactSet) (f : ℕ). s f && not (del f) || add f) (r.add a) (r.del a)

  -- ---- an agent alone

  pub executes_renamed : {i : ℕ} {s s' : FactSet} {π : List ℕ} → Executes Π i s π s' → Executes Π' i s (map ρ π) s'
  executes_renamed none = none
  executes_renamed {i} {s} {s'} (then {a = a} {π = π} own holds x) =
      then (r.owned i a own) (pre-renamed a holds)
      (subst (λ (q : FactSet). Executes Π' i q (map ρ π) s') (apply-renamed a s) (executes_renamed x))

  pub solution_renamed : (i : ℕ) (π : List ℕ) → i < Π.agents → Solution Π i π → Solution Π' i (map ρ π)
  solution_renamed i π l (s, x, g) = (
    s,
    subst (λ (q : FactSet). Executes Π' i q (map ρ π) s) r.init (executes_renamed x),
    subst (λ (q : FactSet). q ⊆ s) (r.goal i l) g,
  )

  solutions-renamed : (plans : List (List ℕ)) → Solutions Π plans → Solutions Π' (map (map ρ) plans)
  solutions-renamed plans s =
      record {
        many = length-map plans (map ρ) ∙ s.many ∙ r.agents;
        each = λ i l.
            let h = back l in
            subst (Solution Π' i) (map-get_d (map ρ) plans i [])
            (solution_renamed i (get_or plans i []) h (s.each i h));
      }

  -- ---- all agents

  abbrev renamed : World Π → World Π'
  renamed w = record { state = w.state; left = λ j. map ρ (w.left j) }

  acts-renamed-by_case : {w : World Π} {i : ℕ} {w' : World Π} → Acts Π w i w' → Acts Π' (renamed w) i (renamed w')
  acts-renamed-by_case {w} {i} (acts {a = a} {π = π} l e waits holds) =
      subst (Acts Π' (renamed w) i)
      (ap₂ (λ (s : FactSet) (left : ℕ → List ℕ). record { state = s; left = left })
      (sym (apply-renamed a w.state))
      (fun_ext (λ j. sym (map-cond (map ρ) (eqb j i) π (w.left j)))))
      (acts (forth l) (ap (map ρ) e)
      (waits-renamed a waits)
      (pre-renamed a holds))

  acts-renamed : {w w' : World Π} {i : ℕ} → Acts Π w i w' → Acts Π' (renamed w) i (renamed w')
  acts-renamed x = acts-renamed-by_case x

  execution_renamed : {w w' : World Π} {is : List ℕ} → Execution Π w is w' → Execution Π' (renamed w) is (renamed w')
  execution_renamed unmoved = unmoved
  execution_renamed (chosen a x) = chosen (acts-renamed a) (execution_renamed x)

  begin-renamed : (plans : List (List ℕ)) → renamed (begin Π plans) ≡ begin Π' (map (map ρ) plans)
  begin-renamed plans =
      ap₂ (λ (s : FactSet) (left : ℕ → List ℕ). record { state = s; left = left })
      r.init (fun_ext (λ j. map-get_d (map ρ) plans j []))

  -- ---- faults

  collides-renamed : {w : World Π} {i : ℕ} → Collides Π w i → Collides Π' (renamed w) i
  collides-renamed {w} {i} (collides {a = a} l e waits lacks) =
      collides (forth l) (ap (map ρ) e)
      (waits-renamed a waits)
      (λ h. lacks (renamed-pre a h))

  waiting-renamed : {w : World Π} {i : ℕ} → Waiting Π w i → Waiting Π' (renamed w) i
  waiting-renamed {w} {i} (waiting {a = a} e lacks) =
      waiting (ap (map ρ) e) (λ h. lacks (renamed-waits a h))

  deadlock-renamed : {w : World Π} → Deadlock Π w → Deadlock Π' (renamed w)
  deadlock-renamed {w} (stay, i, l, waits) = (
    λ j h. ⊎_elim (λ x. inl (waiting-renamed x)) (λ (e : w.left j ≡ []). inr (ap (map ρ) e)) (stay j (back h)),
    i,
    forth l,
    waiting-renamed waits,
  )

  faultless-renamed : {w : World Π} → Faultless Π' (renamed w) → Faultless Π w
  faultless-renamed {w} f =
      record {
        no-collision = λ i c. f.no-collision i (collides-renamed c);
        no-deadlock = λ d. f.no-deadlock (deadlock-renamed d);
        no_miss = λ ended i l.
            subst (λ (q : FactSet). q ⊆ w.state) (sym (r.goal i l))
            (f.no_miss (λ j h. ap (map ρ) (ended j (back h))) i (forth l));
      }

  pub robust-renamed : Robust Π' → Robust Π
  robust-renamed robust plans s is w x =
      faultless-renamed
      (robust (map (map ρ) plans) (solutions-renamed plans s) is (renamed w)
      (subst (λ (v : World Π'). Execution Π' v is (renamed w)) (begin-renamed plans) (execution_renamed x)))
