-- Loops over a list that is read from an offset on, `from at`: what is asked of the whole is asked of the list from i
-- on.
use mathlib.Core.Path.{◌≡◌, refl, sym, ap, ◌∙◌}
use mathlib.Core.Bool.{Bool, true, false, ◌&&◌, and-true, and_assoc}
use mathlib.Core.List.{List, [], ◌∷◌}
use Prim.Native.Nat.{ℕ, suc, ◌+◌, ◌≤◌}
use native.Mathlib.Omega.{arith}
use lib.ListN.{length}
use Rattle.semantics.specs.Base.{any_of, all_of}
use Rattle.semantics.specs.Pddl.{is_in, none_twice}

module _ {A : Type 0} where
  -- ---- how many: n before i
  pub record Numbered (from : ℕ → List A) (at n i : ℕ) : Type 0 where
    pub whole : length (from at) ≡ n + length (from i)

  pub numbered-begin : (from : ℕ → List A) (at : ℕ) → Numbered from at 0 at
  numbered-begin from at = record { whole = omega arith }

  module _ {from : ℕ → List A} {at n i : ℕ} (g : Numbered from at n i) where
    module _ {a : A} (m : ℕ) (next : from i ≡ a ∷ from m) where
      one_more : length (from i) ≡ suc (length (from m))
      one_more = ap length next

      pub numbered_below : n + 1 ≤ length (from at)
      numbered_below = omega (arith, g.whole, one_more)

      pub numbered-on : Numbered from at (n + 1) m
      numbered-on = record { whole = omega (arith, g.whole, one_more) }

    pub numbered-end : from i ≡ [] → n ≡ length (from at)
    numbered-end e = let l : length (from i) ≡ 0 = ap length e in omega (arith, g.whole)

  -- ---- a question
  pub record Asked (f : List A → Bool) (from : ℕ → List A) (at i : ℕ) : Type 0 where
    pub whole : f (from at) ≡ f (from i)

  pub asked-begin : (f : List A → Bool) (from : ℕ → List A) (at : ℕ) → Asked f from at at
  asked-begin f from at = record { whole = refl }

  module _ {f : List A → Bool} {from : ℕ → List A} {at i : ℕ} (g : Asked f from at i) where
    -- the one at i decides, or is passed
    module _ {a : A} (n : ℕ) (next : from i ≡ a ∷ from n) where
      pub asked-decides : (b : Bool) → f (a ∷ from n) ≡ b → b ≡ f (from at)
      asked-decides b e = sym (g.whole ∙ ap f next ∙ e)

      pub asked-on : f (a ∷ from n) ≡ f (from n) → Asked f from at n
      asked-on e = record { whole = g.whole ∙ ap f next ∙ e }

    pub asked-end : from i ≡ [] → f [] ≡ f (from at)
    asked-end e = sym (g.whole ∙ ap f e)

  -- ---- does one pass a test, do all

  module _ (p : A → Bool) {from : ℕ → List A} {at i : ℕ} where
    module _ (g : Asked (any_of p) from at i) where
      module _ {a : A} (n : ℕ) (next : from i ≡ a ∷ from n) (b : Bool) (is : b ≡ p a) where
        pub any_found : b ≡ true → true ≡ any_of p (from at)
        unfolding any_of
        any_found h = asked-decides g n next true (rw (sym is ∙ h))

        pub any-on : b ≡ false → Asked (any_of p) from at n
        unfolding any_of
        any-on h = asked-on g n next (rw (sym is ∙ h))

      pub any-end : from i ≡ [] → false ≡ any_of p (from at)
      unfolding any_of
      any-end e = asked-end g e

    module _ (g : Asked (all_of p) from at i) where
      module _ {a : A} (n : ℕ) (next : from i ≡ a ∷ from n) (b : Bool) (is : b ≡ p a) where
        pub all-not : b ≡ false → false ≡ all_of p (from at)
        unfolding all_of
        all-not h = asked-decides g n next false (rw (sym is ∙ h))

        pub all-on : b ≡ true → Asked (all_of p) from at n
        unfolding all_of
        all-on h = asked-on g n next (rw (sym is ∙ h))

      pub all_end : from i ≡ [] → true ≡ all_of p (from at)
      unfolding all_of
      all_end e = asked-end g e

-- ---- do all, where b is the answer for those before i

module _ {A : Type 0} (p : A → Bool) where
  pub record Held (from : ℕ → List A) (at : ℕ) (b : Bool) (i : ℕ) : Type 0 where
    pub whole : all_of p (from at) ≡ (b && all_of p (from i))

  pub held-begin : (from : ℕ → List A) (at : ℕ) → Held from at true at
  held-begin from at = record { whole = refl }

  module _ {from : ℕ → List A} {at : ℕ} {b : Bool} {i : ℕ} (g : Held from at b i) where
    pub held_on : {a : A} (n : ℕ) → from i ≡ a ∷ from n → (c : Bool) → c ≡ p a → Held from at (b && c) n
    unfolding all_of
    held_on n next c is =
        record { whole = g.whole ∙ rw (next, ← is) (sym (and_assoc b c (all_of p (from n)))) }

    pub held-end : from i ≡ [] → b ≡ all_of p (from at)
    unfolding all_of
    held-end e = sym (g.whole ∙ rw e (and-true b))

-- ---- does no name stand twice

module _ {from : ℕ → List (List ℕ)} {at i : ℕ} (g : Asked none_twice from at i) where
  module _ {w : List ℕ} (n : ℕ) (next : from i ≡ w ∷ from n) (b : Bool) (is : b ≡ is_in (from n) w) where
    pub twice_found : b ≡ true → false ≡ none_twice (from at)
    unfolding none_twice
    twice_found h = asked-decides g n next false (rw (sym is ∙ h))

    pub twice-on : b ≡ false → Asked none_twice from at n
    unfolding none_twice
    twice-on h = asked-on g n next (rw (sym is ∙ h))

  pub twice-end : from i ≡ [] → true ≡ none_twice (from at)
  unfolding none_twice
  twice-end e = asked-end g e
