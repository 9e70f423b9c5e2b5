-- Lists, tests and answers that the meanings are written with.
use Rattle.std.specs.Prelude.{Bool, true, false, cond, ◌&&◌, ◌||◌, List, [], ◌∷◌, ◌++◌, ℕ, zero, suc, ◌-◌, length, replicate, drop}

-- the numbers k, k + 1, .., c of them
unfoldable pub numbers_from : ℕ → ℕ → List ℕ
numbers_from k zero = []
numbers_from k (suc c) = k ∷ numbers_from (suc k) c

-- the numbers below n
abbrev pub up_to : ℕ → List ℕ
up_to n = numbers_from 0 n

module _ {A : Type 0} where
  unfoldable pub any_of : (A → Bool) → List A → Bool
  any_of p [] = false
  any_of p (x ∷ xs) = p x || any_of p xs

  unfoldable pub all_of : (A → Bool) → List A → Bool
  all_of p [] = true
  all_of p (x ∷ xs) = p x && all_of p xs

  -- f x for each x of the list that passes the test
  unfoldable pub collect : {B : Type 0} → (A → Bool) → (A → B) → List A → List B
  collect p f [] = []
  collect p f (x ∷ xs) = cond (p x) (f x ∷ collect p f xs) (collect p f xs)

  unfoldable pub keep : (A → Bool) → List A → List A
  keep p xs = collect p (λ x. x) xs

  -- the first of the list that passes the test; d where none does
  unfoldable pub first_of : (A → Bool) → A → List A → A
  first_of p d [] = d
  first_of p d (x ∷ xs) = cond (p x) x (first_of p d xs)

-- ---- refusals: a number, 0 where there is none

-- the refusal k where the test is true
infix 28 ◌if◌
abbrev pub ◌if◌ : ℕ → Bool → ℕ
k if b = cond b k 0

-- the first of two refusals
infixr 27 ◌else◌
abbrev pub ◌else◌ : ℕ → ℕ → ℕ
zero else s = s
suc r else s = suc r

-- the first refusal in a list of tests
unfoldable pub first_refusal : (ℕ → ℕ) → List ℕ → ℕ
first_refusal f [] = 0
first_refusal f (x ∷ xs) = f x else first_refusal f xs

-- ---- answers

pub data Answer (A : Type 0) : Type 0 where
  refused : ℕ → Answer A
  gives : A → Answer A

-- refused with this number, where there is one, and what that leaves: the answer, and what the slices then hold;
-- otherwise the rest
infixr 26 ◌leaves◌otherwise◌
abbrev pub ◌leaves◌otherwise◌ {κ} : {R : Type κ} → ℕ → (ℕ → R) → R → R
zero leaves left otherwise rest = rest
suc r leaves left otherwise rest = left (suc r)

-- the answer, unless there is a refusal; no slice is lent
abbrev pub unless : {A : Type 0} → ℕ → Answer A → Answer A
unless r a = r leaves refused otherwise a

-- ---- lent slices

-- xs at the front of a slice of n entries, zeros after it
abbrev pub padded : ℕ → List ℕ → List ℕ
padded n xs = xs ++ replicate (n - length xs) 0

-- xs at the front of a slice, the rest as it was
abbrev pub front : List ℕ → List ℕ → List ℕ
front xs slice = xs ++ drop (length xs) slice

-- a slice of as many entries, all zero
abbrev pub zeroed : List ℕ → List ℕ
zeroed xs = replicate (length xs) 0
