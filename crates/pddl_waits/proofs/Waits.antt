-- The numbers in waits and their bounds. Assumes nothing.
use mathlib.Core.Path.{◌≡◌, refl, sym, ◌∙◌}
use mathlib.Core.Bool.{Bool, true, false, ◌&&◌}
use mathlib.Core.List.{List, [], ◌∷◌}
use Prim.Native.Nat.{ℕ, ◌≤◌, ◌<◌, max}
use native.Mathlib.Omega.{arith}
use lib.Dec.{ltb}
use Rattle.std.specs.Prelude.{Option, Some, None}
use borrow.Author.Tests.{lt-ltb, le-ltb, ltb-true, ltb-false}
use Rattle.theory.proofs.Lists.{and_elim}
use Rattle.semantics.specs.Pddl.{waits_known}
use Rattle.pddl_waits.specs.Inner.Waits.{within_of, grown_of}
use Rattle.pddl_waits.specs.declared.Greatest.{Greatest}

-- ---- waits whose numbers are known

module _ (m F : ℕ) (a f : ℕ) (ws : List ℕ) where
  pub known_both : waits_known m F (a ∷ f ∷ ws) ≡ true → (a < m) × (f < F)
  unfolding waits_known
  known_both h =
      let both = and_elim (ltb a m) (ltb f F) (and_elim (ltb a m && ltb f F) (waits_known m F ws) h).0 in
      (ltb-true a m both.0, ltb-true f F both.1)

  known_this : a < m → f < F → waits_known m F (a ∷ f ∷ ws) ≡ waits_known m F ws
  unfolding waits_known
  known_this h g = rw (lt-ltb a m h, lt-ltb f F g)

-- under higher bounds too
pub known_more : (m F m' F' : ℕ) (ws : List ℕ) → m ≤ m' → F ≤ F' → waits_known m F ws ≡ true → waits_known m' F' ws
    ≡ true
unfolding waits_known
known_more m F m' F' [] l k h = refl
known_more m F m' F' (a ∷ []) l k h = refl
known_more m F m' F' (a ∷ f ∷ ws) l k h =
    let both = known_both m F a f ws h in
    let on = known_more m F m' F' ws l k (sym (known_this m F a f ws both.0 both.1) ∙ h) in
    known_this m' F' a f ws (omega (arith, both.0)) (omega (arith, both.1)) ∙ on

-- ---- the greatest numbers

-- the greater of two is below n where both are
max-below : (a b n : ℕ) → ltb (max a b) n ≡ (ltb a n && ltb b n)
max-below a b n = go (ltb a n) (ltb b n) refl refl
  where
    go : (s t : Bool) → ltb a n ≡ s → ltb b n ≡ t → ltb (max a b) n ≡ (s && t)
    go true true h g = lt-ltb (max a b) n (omega (arith, ltb-true a n h, ltb-true b n g))
    go true false h g = le-ltb (max a b) n (omega (arith, ltb-false b n g))
    go false t h g = le-ltb (max a b) n (omega (arith, ltb-false a n h))

module _ (x y a f m F : ℕ) (ws : List ℕ) where
  -- the first wait is for action a and fact f
  one_more : (ltb x m && ltb y F) && waits_known m F (a ∷ f ∷ ws)
      ≡ (ltb (max x a) m && ltb (max y f) F) && waits_known m F ws
  unfolding waits_known
  one_more = rw (max-below x a m, max-below y f F) (go (ltb x m) (ltb y F) (ltb a m) (ltb f F))
    where
      go : (p q s t : Bool) → (p && q) && ((s && t) && waits_known m F ws)
          ≡ ((p && s) && (q && t)) && waits_known m F ws
      go true true s t = refl
      go true false true t = refl
      go true false false t = refl
      go false q s t = refl

pub known-grown : (most : Option Greatest) (a f m F : ℕ) (ws : List ℕ)
    → within_of most m F && waits_known m F (a ∷ f ∷ ws)
    ≡ within_of (Some (grown_of most a f)) m F && waits_known m F ws
unfolding waits_known
known-grown None a f m F ws = refl
known-grown (Some g) a f m F ws = one_more g.action g.fact a f m F ws
