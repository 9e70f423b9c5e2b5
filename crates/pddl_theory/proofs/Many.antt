-- `many`: one turn of it, and its end.
use mathlib.Core.Path.{◌≡◌, refl, subst}
use mathlib.Core.List.{List, [], ◌∷◌}
use Prim.Native.Nat.{ℕ, zero, suc, ◌≤◌, ◌<◌}
use native.Mathlib.Omega.{arith}
use native.Mathlib.Nat.{not-suc-le-zero}
use lib.ListN.{length}
use Rattle.semantics.specs.Pddl.{Token, Parsed, outside, parsed, ◌then◌, many_in, many}
use Rattle.pddl_theory.proofs.Shorter.{Fewer, Reads}

-- a reading that is not outside
pub record Is {A : Type 0} (p : Parsed A) : Type 0 where
  pub value : A
  pub left : List Token
  pub is : p ≡ parsed value left

module _ {A : Type 0} (one : List Token → Parsed A) (reads : Reads one) where
  pub less : (ts : List Token) (a : A) (us : List Token) → one ts ≡ parsed a us → length us < length ts
  less ts a us e = subst (Fewer (length ts)) e (reads (length ts) ts (omega arith)).fewer

  nothing-of : (p : Parsed A) → one [] ≡ p → p ≡ outside
  nothing-of outside e = refl
  nothing-of (parsed a us) e = absurd (not-suc-le-zero (less [] a us e))

  turn : (f g : ℕ) (ts : List Token)
      → ((us : List Token) → length us < length ts → many_in one f us ≡ many_in one g us) → (p : Parsed A) → one ts ≡ p
      → many_in one (suc f) ts ≡ many_in one (suc g) ts
  unfolding many_in
  turn f g ts rest outside e = rw e
  turn f g ts rest (parsed a us) e = rw (e, rest us (less ts a us e))

  -- where there is room enough, more room changes nothing
  enough : (f g : ℕ) (ts : List Token) → length ts ≤ f → length ts ≤ g → many_in one f ts ≡ many_in one g ts
  unfolding many_in
  enough zero zero ts h k = refl
  enough zero (suc g) [] h k = rw (nothing-of (one []) refl)
  enough zero (suc g) (t ∷ ts) h k = absurd (not-suc-le-zero h)
  enough (suc f) zero [] h k = rw (nothing-of (one []) refl)
  enough (suc f) zero (t ∷ ts) h k = absurd (not-suc-le-zero k)
  enough (suc f) (suc g) ts h k = turn f g ts (λ us l. enough f g us (omega arith) (omega arith)) (one ts) refl

  many_by : (f : ℕ) (ts : List Token) → ((us : List Token) → Is (many_in one f us)) → (p : Parsed A) → one ts ≡ p
      → Is (many_in one (suc f) ts)
  unfolding many_in
  many_by f ts rest outside e = record { value = []; left = ts; is = rw e }
  many_by f ts rest (parsed a us) e =
      let r : Is (many_in one f us) = rest us in
      record { value = a ∷ r.value; left = r.left; is = rw (e, r.is) }

  many_in-is : (f : ℕ) (ts : List Token) → Is (many_in one f ts)
  unfolding many_in
  many_in-is zero ts = record { value = []; left = ts; is = refl }
  many_in-is (suc f) ts = many_by f ts (many_in-is f) (one ts) refl

  -- as many as there are is never outside
  pub many_is : (ts : List Token) → Is (many one ts)
  many_is ts = many_in-is (length ts) ts

  pub many-on : (ts : List Token) (a : A) (us : List Token) → one ts ≡ parsed a us
      → many one ts ≡ (many one us then λ more vs. parsed (a ∷ more) vs)
  unfolding many_in
  many-on [] a us e = absurd (not-suc-le-zero (less [] a us e))
  many-on (t ∷ ts) a us e =
      let l : length us < suc (length ts) = less (t ∷ ts) a us e in
      let r : Is (many one us) = many_is us in
      rw (e, enough (length ts) (length us) us (omega arith) (omega arith), r.is)

  pub many-out : (ts : List Token) → one ts ≡ outside → many one ts ≡ parsed [] ts
  unfolding many_in
  many-out [] e = refl
  many-out (t ∷ ts) e = rw e
