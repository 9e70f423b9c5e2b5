-- Two invariants of loops, for any test and any list: those before k are passed over, and the whole comes to what the
-- rest from k on comes to. Each has what a loop asks: its begin, a turn onward, its end.
use mathlib.Core.Path.{◌≡◌, refl, sym, ap, ◌∙◌}
use mathlib.Core.Bool.{Bool, true, false}
use mathlib.Core.List.{List, [], ◌∷◌, map-id}
use Prim.Native.Nat.{ℕ, ◌+◌, ◌≤◌, ◌<◌}
use native.Mathlib.Omega.{arith}
use native.Mathlib.Numerals.{add-one}
use lib.ListN.{length, get_or, drop, drop_of_length-le}
use lib.Seq.{drop-cons}
use borrow.Author.Count.{below_none, below_more}
use Rattle.semantics.specs.Base.{up_to, any_of, all_of}
use Rattle.theory.proofs.Lists.{up_to_length, get_d_up_to}

-- ---- the first that is not passed over

-- of the numbers below n, P holds of each before k
pub record Passed (P : ℕ → Type 0) (n k : ℕ) : Type 0 where
  pub most : k ≤ n
  pub each : (j : ℕ) → j < k → P j

module _ (P : ℕ → Type 0) (n : ℕ) where
  pub passed-begin : Passed P n 0
  passed-begin = record { most = omega arith; each = below_none P }

  module _ (k : ℕ) (p : Passed P n k) where
    pub passed-onward : k < n → P k → Passed P n (k + 1)
    passed-onward h q = record { most = omega arith; each = below_more P k p.each q }

    pub passed-end : n ≤ k → (j : ℕ) → j < n → P j
    passed-end h j l = p.each j (omega (arith, p.most))

-- a test that fails of each before k
abbrev pub Fails : (ℕ → Bool) → ℕ → Type 0
Fails p k = p k ≡ false

pub fails-onward : (p : ℕ → Bool) (n k : ℕ) → Passed (Fails p) n k → k < n → (b : Bool) → b ≡ p k → b ≡ false
    → Passed (Fails p) n (k + 1)
fails-onward p n k r h b q e = passed-onward (Fails p) n k r h (sym q ∙ e)

-- ---- the whole is the rest from k on

pub record Rest {A B : Type 0} (f : List A → B) (xs : List A) (k : ℕ) : Type 0 where
  pub most : k ≤ length xs
  pub rest : f xs ≡ f (drop k xs)

module _ {A B : Type 0} (f : List A → B) (xs : List A) where
  pub rest-begin : Rest f xs 0
  rest-begin = record { most = omega arith; rest = refl }

  module _ (k : ℕ) (r : Rest f xs k) where
    module _ (d : A) (h : k < length xs) where
      -- entry k decides
      pub rest-decides : (b : B) → f (get_or xs k d ∷ drop (k + 1) xs) ≡ b → f xs ≡ b
      rest-decides b e = r.rest ∙ ap f (drop-cons xs k d h ∙ rw (add-one k)) ∙ e

      -- entry k is passed
      pub rest-onward : f (get_or xs k d ∷ drop (k + 1) xs) ≡ f (drop (k + 1) xs) → Rest f xs (k + 1)
      rest-onward e = record { most = omega arith; rest = rest-decides (f (drop (k + 1) xs)) e }

    -- none is left
    pub rest-ends : length xs ≤ k → f xs ≡ f []
    rest-ends h = r.rest ∙ ap f (drop_of_length-le xs h)

-- ---- the same of the numbers below n

pub up_to_at : (n i : ℕ) → i < n → get_or (up_to n) i 0 ≡ i
up_to_at n i h = ap (λ (l : List ℕ). get_or l i 0) (sym (map-id (up_to n))) ∙ get_d_up_to (λ x. x) n i 0 h

module _ {B : Type 0} (f : List ℕ → B) (n i : ℕ) (r : Rest f (up_to n) i) where
  module _ (h : i < n) where
    inside : i < length (up_to n)
    inside = omega (arith, up_to_length n)

    turn : i ∷ drop (i + 1) (up_to n) ≡ get_or (up_to n) i 0 ∷ drop (i + 1) (up_to n)
    turn = rw (up_to_at n i h)

    pub number-decides : (b : B) → f (i ∷ drop (i + 1) (up_to n)) ≡ b → f (up_to n) ≡ b
    number-decides b e = rest-decides f (up_to n) i r 0 inside b (sym (ap f turn) ∙ e)

    pub number-onward : f (i ∷ drop (i + 1) (up_to n)) ≡ f (drop (i + 1) (up_to n)) → Rest f (up_to n) (i + 1)
    number-onward e = rest-onward f (up_to n) i r 0 inside (sym (ap f turn) ∙ e)

  pub number-ends : n ≤ i → f (up_to n) ≡ f []
  number-ends h = let l : length (up_to n) ≤ i = omega (arith, up_to_length n) in rest-ends f (up_to n) i r l

module _ (p : ℕ → Bool) (n i : ℕ) where
  module _ (r : Rest (all_of p) (up_to n) i) where
    pub all-fails : i < n → p i ≡ false → all_of p (up_to n) ≡ false
    unfolding all_of
    all-fails h e = number-decides (all_of p) n i r h false (rw e)

    pub all-onward : i < n → p i ≡ true → Rest (all_of p) (up_to n) (i + 1)
    unfolding all_of
    all-onward h e = number-onward (all_of p) n i r h (rw e)

    pub all-ends : n ≤ i → all_of p (up_to n) ≡ true
    unfolding all_of
    all-ends h = number-ends (all_of p) n i r h

  module _ (r : Rest (any_of p) (up_to n) i) where
    pub any-holds : i < n → p i ≡ true → any_of p (up_to n) ≡ true
    unfolding any_of
    any-holds h e = number-decides (any_of p) n i r h true (rw e)

    pub any-onward : i < n → p i ≡ false → Rest (any_of p) (up_to n) (i + 1)
    unfolding any_of
    any-onward h e = number-onward (any_of p) n i r h (rw e)

    pub any-ends : n ≤ i → any_of p (up_to n) ≡ false
    unfolding any_of
    any-ends h = number-ends (any_of p) n i r h
