-- The first of a list that passes a test, and the lowest number. Assumes nothing.
use mathlib.Core.Path.{◌≡◌, refl, sym, ap, ◌∙◌}
use mathlib.Core.Bool.{Bool, true, false}
use mathlib.Core.Logic.{⊎_elim}
use mathlib.Core.List.{List, [], ◌∷◌}
use Prim.Native.Nat.{ℕ, zero, suc, ◌<◌}
use native.Mathlib.Omega.{arith}
use lib.ListN.{length, get_or}
use Rattle.semantics.specs.Base.{up_to, any_of, first_of}
use Rattle.theory.proofs.Lists.{bool_cases, true-not-false, up_to_length, get_d-number}

module _ {A : Type 0} (p : A → Bool) (d : A) where
  first_yes : (x : A) (xs : List A) → p x ≡ true → first_of p d (x ∷ xs) ≡ x
  unfolding first_of
  first_yes x xs e = rw e

  first-no : (x : A) (xs : List A) → p x ≡ false → first_of p d (x ∷ xs) ≡ first_of p d xs
  unfolding first_of
  first-no x xs e = rw e

  -- entry k passes, and none before it does
  pub record FirstAt (xs : List A) (k : ℕ) : Type 0 where
    pub below : k < length xs
    pub passes : p (get_or xs k d) ≡ true
    pub none : (j : ℕ) → j < k → p (get_or xs j d) ≡ false

  pub first-at : (xs : List A) (k : ℕ) → FirstAt xs k → first_of p d xs ≡ get_or xs k d
  first-at [] k f = absurd (omega (arith, f.below))
  first-at (x ∷ xs) zero f = first_yes x xs f.passes
  first-at (x ∷ xs) (suc k) f =
      first-no x xs (f.none 0 (omega arith))
      ∙ first-at xs k
      (record { below = omega (arith, f.below); passes = f.passes; none = λ j h. f.none (suc j) (omega arith) })

  -- where one passes
  pub first_index : (xs : List A) → any_of p xs ≡ true → (k : ℕ) × FirstAt xs k
  unfolding any_of
  first_index [] e = absurd (true-not-false e refl)
  first_index (x ∷ xs) e =
      ⊎_elim (λ t. (0, record { below = omega arith; passes = t; none = λ j h. absurd (omega arith) }))
      (λ f. later f (first_index xs (rw f at e))) (bool_cases (p x))
    where
      later : p x ≡ false → (k : ℕ) × FirstAt xs k → (k : ℕ) × FirstAt (x ∷ xs) k
      later f r =
          (suc r.0, record { below = omega (arith, r.1.below); passes = r.1.passes; none = none })
        where
          none : (j : ℕ) → j < suc r.0 → p (get_or (x ∷ xs) j d) ≡ false
          none zero h = f
          none (suc j) h = r.1.none j (omega arith)

-- k is the lowest number below n that passes
pub record LowestIs (p : ℕ → Bool) (n k : ℕ) : Type 0 where
  pub below : k < n
  pub passes : p k ≡ true
  pub none : (j : ℕ) → j < k → p j ≡ false

module _ (p : ℕ → Bool) (n : ℕ) where
  pub lowest-is : (k : ℕ) → LowestIs p n k → first_of p 0 (up_to n) ≡ k
  lowest-is k l =
      first-at p 0 (up_to n) k
      (record {
        below = omega (arith, l.below, up_to_length n);
        passes = ap p (get_d-number n k l.below) ∙ l.passes;
        none = λ j h. ap p (get_d-number n j (omega (arith, l.below))) ∙ l.none j h;
      })
      ∙ get_d-number n k l.below

  -- where one passes
  pub lowest : any_of p (up_to n) ≡ true → LowestIs p n (first_of p 0 (up_to n))
  lowest e =
      let r = first_index p 0 (up_to n) e in
      let b : r.0 < n = omega (arith, r.1.below, up_to_length n) in
      let is : first_of p 0 (up_to n) ≡ r.0 = first-at p 0 (up_to n) r.0 r.1 ∙ get_d-number n r.0 b in
      rw is
      (record {
        below = b;
        passes = ap p (sym (get_d-number n r.0 b)) ∙ r.1.passes;
        none = λ j h. ap p (sym (get_d-number n j (omega arith))) ∙ r.1.none j h;
      })
