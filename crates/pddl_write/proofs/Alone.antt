-- The mask of one fact alone. Assumes nothing.
use mathlib.Core.Path.{◌≡◌, refl, sym, ap, ◌∙◌}
use mathlib.Core.Bool.{true, false}
use mathlib.Core.Logic.{◌⊎◌, inl, inr}
use Prim.Native.Nat.{ℕ, zero, suc, ◌/◌, ◌%◌, ◌^◌}
use native.Mathlib.Nat.{pow-suc, div-one}
use native.Mathlib.Omega.{arith}
use lib.Dec.{eqb}
use borrow.Author.Tests.{eqb-true, eqb-false, eq-eqb, ne_eqb}
use Rattle.semantics.specs.Mask.{has}
use Rattle.theory.proofs.Lists.{bool_cases}
use Rattle.theory.proofs.Masks.{has-suc, zero_has}

pub last_has : (x : ℕ) → x % 2 ≡ 1 → has 0 x ≡ true
unfolding has
last_has x e = rw (div-one, e)

last-lacks : (x : ℕ) → x % 2 ≡ 0 → has 0 x ≡ false
unfolding has
last-lacks x e = rw (div-one, e)

-- fact g in the mask of f alone
pub one_has : (f g : ℕ) → has g (2 ^ f) ≡ eqb g f
one_has zero zero = last_has (2 ^ 0) refl
one_has zero (suc g) = has-suc g (2 ^ 0) ∙ zero_has g ∙ sym (ne_eqb (suc g) 0 (λ e. omega arith))
one_has (suc f) zero =
    last-lacks (2 ^ suc f) (omega (arith, pow-suc 2 f)) ∙ sym (ne_eqb 0 (suc f) (λ e. omega arith))
one_has (suc f) (suc g) =
    let e : 2 ^ suc f / 2 ≡ 2 ^ f = omega (arith, pow-suc 2 f) in
    has-suc g (2 ^ suc f) ∙ ap (has g) e ∙ one_has f g ∙ step (bool_cases (eqb g f))
  where
    step : (eqb g f ≡ true) ⊎ (eqb g f ≡ false) → eqb g f ≡ eqb (suc g) (suc f)
    step (inl h) = h ∙ sym (eq-eqb (suc g) (suc f) (ap suc (eqb-true g f h)))
    step (inr h) =
        h ∙ sym (ne_eqb (suc g) (suc f) (λ e. let q : g ≡ f = omega arith in eqb-false g f h q))
