-- Laws of Base: tests, and membership in the lists that tests and ranges make.
use mathlib.Core.Path.{◌≡◌, refl, sym, ap, subst, ◌∙◌}
use mathlib.Core.Bool.{Bool, true, false, cond, ◌&&◌, ◌||◌, true≢false, false≢true}
use mathlib.Core.Logic.{◌⊎◌, inl, inr, ⊎_elim}
use mathlib.Core.List.{List, [], ◌∷◌, ◌++◌, map, flatten}
use mathlib.Core.List.Memᴰ
use mathlib.Core.List.{Memᴰ}
use Prim.Native.Nat.{ℕ, zero, suc, ◌+◌, ◌-◌, ◌≤◌, ◌<◌}
use native.Mathlib.Nat.{not-suc-le-zero, le_of_suc-le-suc}
use native.Mathlib.Omega.{arith}
use lib.ListN.{length, get_or, take, drop, replicate}
use lib.Dec.{eqb, ltb}
use borrow.Author.Tests.{eqb-true, eqb-false, ltb-true, ltb-false, lt-ltb}
use Rattle.semantics.specs.Base.{numbers_from, up_to, any_of, all_of, collect, keep}

-- ---- tests

pub bool_cases : (b : Bool) → (b ≡ true) ⊎ (b ≡ false)
bool_cases true = inl refl
bool_cases false = inr refl

pub true-not-false : {b : Bool} → b ≡ true → b ≡ false → ⊥
true-not-false p q = true≢false (sym p ∙ q)

-- the value of a test that cannot be false
pub not-false-true : (b : Bool) → (b ≡ false → ⊥) → b ≡ true
not-false-true true h = refl
not-false-true false h = absurd (h refl)

pub not-true-false : (b : Bool) → (b ≡ true → ⊥) → b ≡ false
not-true-false true h = absurd (h refl)
not-true-false false h = refl

-- tests that follow from one another are equal
pub test_ext : (a b : Bool) → (a ≡ true → b ≡ true) → (b ≡ true → a ≡ true) → a ≡ b
test_ext true b f g = sym (f refl)
test_ext false true f g = g refl
test_ext false false f g = refl

pub and_elim : (a b : Bool) → a && b ≡ true → (a ≡ true) × (b ≡ true)
and_elim true b h = (refl, h)
and_elim false b h = absurd (false≢true h)

pub and_intro : {a b : Bool} → a ≡ true → b ≡ true → a && b ≡ true
and_intro p q = rw (p, q)

pub or_elim : (a b : Bool) → a || b ≡ true → (a ≡ true) ⊎ (b ≡ true)
or_elim true b h = inl refl
or_elim false b h = inr h

pub or_left : (a b : Bool) → a ≡ true → a || b ≡ true
or_left a b h = rw h

pub or_right : (a b : Bool) → b ≡ true → a || b ≡ true
or_right true b h = refl
or_right false b h = h

pub or-false_elim : (a b : Bool) → a || b ≡ false → (a ≡ false) × (b ≡ false)
or-false_elim true b h = absurd (true≢false h)
or-false_elim false b h = (refl, h)

-- constructors that differ are apart: were they equal, so would be 0 and 1
pub apart : ◌≡◌ {A = ℕ} 0 1 → ⊥
apart e = omega arith

pub lt-or_ge : (a b : ℕ) → (a < b) ⊎ (b ≤ a)
lt-or_ge a b = ⊎_elim (λ t. inl (ltb-true a b t)) (λ f. inr (ltb-false a b f)) (bool_cases (ltb a b))

pub same_or_not : (a b : ℕ) → (a ≡ b) ⊎ (a ≡ b → ⊥)
same_or_not a b = ⊎_elim (λ t. inl (eqb-true a b t)) (λ f. inr (eqb-false a b f)) (bool_cases (eqb a b))

-- ---- membership

module _ {A : Type 0} where
  pub mem-get_d : (xs : List A) (k : ℕ) (d : A) → k < length xs → Memᴰ (get_or xs k d) xs
  mem-get_d [] k d l = absurd (not-suc-le-zero l)
  mem-get_d (x ∷ xs) zero d l = Memᴰ.head refl
  mem-get_d (x ∷ xs) (suc k) d l = Memᴰ.tail (mem-get_d xs k d (le_of_suc-le-suc l))

  -- a list with no members, and one with some
  pub no-members : (xs : List A) → ltb 0 (length xs) ≡ false → xs ≡ []
  no-members [] e = refl
  no-members (x ∷ xs) e = absurd (true-not-false (lt-ltb 0 (length (x ∷ xs)) (omega arith)) e)

  pub member-some : {x : A} {xs : List A} → Memᴰ x xs → ltb 0 (length xs) ≡ true
  member-some {xs = []} m = absurd (Memᴰ.not-nil m)
  member-some {xs = y ∷ ys} m = lt-ltb 0 (length (y ∷ ys)) (omega arith)

  -- where a member stands
  pub mem_index : {x : A} {xs : List A} (d : A) → Memᴰ x xs → (k : ℕ) × (k < length xs) × (get_or xs k d ≡ x)
  mem_index d (Memᴰ.head e) = (0, omega arith, sym e)
  mem_index d (Memᴰ.tail m) = let r = mem_index d m in (suc r.0, omega arith, r.2)

  module _ (p : A → Bool) where
    pub any-true : (xs : List A) → any_of p xs ≡ true → (x : A) × Memᴰ x xs × (p x ≡ true)
    unfolding any_of
    any-true [] h = absurd (false≢true h)
    any-true (x ∷ xs) h =
        ⊎_elim
        (λ t. (x, Memᴰ.head refl, t))
        (λ t. let r = any-true xs t in (r.0, Memᴰ.tail r.1, r.2))
        (or_elim (p x) (any_of p xs) h)

    pub true-any : {x : A} {xs : List A} → Memᴰ x xs → p x ≡ true → any_of p xs ≡ true
    unfolding any_of
    true-any (Memᴰ.head {x = y} {xs = ys} e) t = or_left (p y) (any_of p ys) (ap p (sym e) ∙ t)
    true-any (Memᴰ.tail {x = y} {xs = ys} m) t = or_right (p y) (any_of p ys) (true-any m t)

    pub any_false : {x : A} {xs : List A} → any_of p xs ≡ false → Memᴰ x xs → p x ≡ false
    any_false {x} h m = not-true-false (p x) (λ t. true-not-false (true-any m t) h)

    pub false-any : (xs : List A) → ((x : A) → Memᴰ x xs → p x ≡ false) → any_of p xs ≡ false
    false-any xs h = not-true-false (any_of p xs) (λ t. let r = any-true xs t in true-not-false r.2 (h r.0 r.1))

    pub all_true : {x : A} {xs : List A} → all_of p xs ≡ true → Memᴰ x xs → p x ≡ true
    unfolding all_of
    all_true h (Memᴰ.head {x = y} {xs = ys} e) = ap p e ∙ (and_elim (p y) (all_of p ys) h).0
    all_true h (Memᴰ.tail {x = y} {xs = ys} m) = all_true (and_elim (p y) (all_of p ys) h).1 m

    pub true-all : (xs : List A) → ((x : A) → Memᴰ x xs → p x ≡ true) → all_of p xs ≡ true
    unfolding all_of
    true-all [] h = refl
    true-all (x ∷ xs) h = and_intro (h x (Memᴰ.head refl)) (true-all xs (λ y m. h y (Memᴰ.tail m)))

    pub all-false : (xs : List A) → all_of p xs ≡ false → (x : A) × Memᴰ x xs × (p x ≡ false)
    unfolding all_of
    all-false [] h = absurd (true≢false h)
    all-false (x ∷ xs) h =
        ⊎_elim
        (λ t. let r = all-false xs (rw t at h) in (r.0, Memᴰ.tail r.1, r.2))
        (λ f. (x, Memᴰ.head refl, f)) (bool_cases (p x))

    pub false-all : {x : A} {xs : List A} → Memᴰ x xs → p x ≡ false → all_of p xs ≡ false
    false-all {x} {xs} m f = not-true-false (all_of p xs) (λ t. true-not-false (all_true t m) f)

    module _ {B : Type 0} (f : A → B) where
      pub collect_yes : (x : A) (xs : List A) → p x ≡ true → collect p f (x ∷ xs) ≡ f x ∷ collect p f xs
      unfolding collect
      collect_yes x xs t = rw t

      pub collect-no : (x : A) (xs : List A) → p x ≡ false → collect p f (x ∷ xs) ≡ collect p f xs
      unfolding collect
      collect-no x xs t = rw t

      pub collect-mem : {y : B} (xs : List A) → Memᴰ y (collect p f xs)
          → (x : A) × Memᴰ x xs × (p x ≡ true) × (y ≡ f x)
      unfolding collect
      collect-mem [] m = absurd (Memᴰ.not-nil m)
      collect-mem {y} (x ∷ xs) m =
          let down : Memᴰ y (collect p f xs) → (z : A) × Memᴰ z (x ∷ xs) × (p z ≡ true) × (y ≡ f z) =
          λ n. (let r = collect-mem xs n in (r.0, Memᴰ.tail r.1, r.2, r.3)) in
          ⊎_elim
          (λ t. ⊎_elim (λ e. (x, Memᴰ.head refl, t, e)) down (Memᴰ.cases_cons (rw (collect_yes x xs t) at m)))
          (λ t. down (rw (collect-no x xs t) at m))
          (bool_cases (p x))

      pub mem-collect : {x : A} {xs : List A} → Memᴰ x xs → p x ≡ true → Memᴰ (f x) (collect p f xs)
      unfolding collect
      mem-collect {x} (Memᴰ.head {x = z} {xs = zs} e) t =
          rw (collect_yes z zs (ap p (sym e) ∙ t)) (Memᴰ.head (ap f e))
      mem-collect {x} (Memᴰ.tail {x = z} {xs = zs} m) t =
          let n = mem-collect m t in
          ⊎_elim
          (λ y. rw (collect_yes z zs y) (Memᴰ.tail n))
          (λ y. rw (collect-no z zs y) n)
          (bool_cases (p z))

    pub filter-mem : {x : A} (xs : List A) → Memᴰ x (keep p xs) → Memᴰ x xs × (p x ≡ true)
    unfolding keep
    filter-mem xs m = let r = collect-mem (λ x. x) xs m in (Memᴰ.cast r.3 r.1, ap p r.3 ∙ r.2)

    pub mem-filter : {x : A} {xs : List A} → Memᴰ x xs → p x ≡ true → Memᴰ x (keep p xs)
    unfolding keep
    mem-filter m t = mem-collect (λ x. x) m t

-- ---- ranges

pub range_mem : {i : ℕ} (k c : ℕ) → Memᴰ i (numbers_from k c) → (k ≤ i) × (i < k + c)
unfolding numbers_from
range_mem k zero m = absurd (Memᴰ.not-nil m)
range_mem {i} k (suc c) m =
    ⊎_elim
    (λ (e : i ≡ k). (omega arith, omega arith))
    (λ n. let r = range_mem (suc k) c n in (omega arith, omega arith))
    (Memᴰ.cases_cons m)

pub mem_range : (i k c : ℕ) → k ≤ i → i < k + c → Memᴰ i (numbers_from k c)
unfolding numbers_from
mem_range i k zero l h = absurd (omega arith)
mem_range i k (suc c) l h =
    ⊎_elim (λ (g : k < i). Memᴰ.tail (mem_range i (suc k) c g (omega arith)))
    (λ (g : i ≤ k). Memᴰ.head (omega arith)) (lt-or_ge k i)

pub up_to_mem : {i : ℕ} (n : ℕ) → Memᴰ i (up_to n) → i < n
up_to_mem n m = let r = range_mem 0 n m in omega arith

pub mem_up_to : {i n : ℕ} → i < n → Memᴰ i (up_to n)
mem_up_to {i} {n} l = mem_range i 0 n (omega arith) (omega arith)

-- ---- two lists, one after the other

pub filter-append : {A : Type 0} (p : A → Bool) (xs ys : List A) → keep p (xs ++ ys) ≡ keep p xs ++ keep p ys
unfolding keep collect
filter-append p [] ys = refl
filter-append {A} p (x ∷ xs) ys = at (p x) (filter-append p xs ys)
  where
    at : (b : Bool) → collect p (λ x. x) (xs ++ ys) ≡ collect p (λ x. x) xs ++ collect p (λ x. x) ys
        → cond b (x ∷ collect p (λ x. x) (xs ++ ys)) (collect p (λ x. x) (xs ++ ys))
        ≡ cond b (x ∷ collect p (λ x. x) xs) (collect p (λ x. x) xs) ++ collect p (λ x. x) ys
    at true e = ap (λ (q : List A). x ∷ q) e
    at false e = e

pub map-append : {A B : Type 0} (f : A → B) (xs ys : List A) → map f (xs ++ ys) ≡ map f xs ++ map f ys
map-append f [] ys = refl
map-append {B = B} f (x ∷ xs) ys = ap (λ (q : List B). f x ∷ q) (map-append f xs ys)

-- ---- the numbers below n, in order

range_length : (k c : ℕ) → length (numbers_from k c) ≡ c
unfolding numbers_from
range_length k zero = refl
range_length k (suc c) = ap suc (range_length (suc k) c)

pub up_to_length : (n : ℕ) → length (up_to n) ≡ n
up_to_length n = range_length 0 n

-- a list made of the numbers below n, read at i
get_d_range : {A : Type 0} (f : ℕ → A) (k c i : ℕ) (d : A) → i < c → get_or (map f (numbers_from k c)) i d ≡ f (k + i)
unfolding numbers_from
get_d_range f k zero i d h = absurd (omega arith)
get_d_range f k (suc c) zero d h = let e : k ≡ k + 0 = omega arith in ap f e
get_d_range f k (suc c) (suc i) d h = let e : suc k + i ≡ k + suc i =
    omega arith in get_d_range f (suc k) c i d (omega arith) ∙ ap f e

pub get_d_up_to : {A : Type 0} (f : ℕ → A) (n i : ℕ) (d : A) → i < n → get_or (map f (up_to n)) i d ≡ f i
get_d_up_to f n i d h = let e : 0 + i ≡ i = omega arith in get_d_range f 0 n i d h ∙ ap f e

-- what one of the lists has, all of them together have
pub mem-flatten : {A B : Type 0} (f : A → List B) {x : A} {y : B} {xs : List A} → Memᴰ x xs → Memᴰ y (f x)
    → Memᴰ y (flatten (map f xs))
unfolding flatten
mem-flatten {A = A} f {y = y} {xs = x ∷ xs} (Memᴰ.head e) m =
    Memᴰ.append_left (flatten (map f xs)) (subst (λ (z : A). Memᴰ y (f z)) e m)
mem-flatten {A = A} f {xs = x ∷ xs} (Memᴰ.tail n) m = Memᴰ.append_right (f x) (mem-flatten f n m)
mem-flatten {A = A} {B = B} f {y = y} {xs = []} x6 m = elim x6 [ ]

-- ---- entries

-- an entry within the list does not depend on the default
pub get_d_any : {A : Type 0} (xs : List A) (k : ℕ) (d e : A) → k < length xs → get_or xs k d ≡ get_or xs k e
get_d_any [] k d e l = absurd (not-suc-le-zero l)
get_d_any (x ∷ xs) zero d e l = refl
get_d_any (x ∷ xs) (suc k) d e l = get_d_any xs k d e (le_of_suc-le-suc l)

pub get_d_map : {A B : Type 0} (f : A → B) (xs : List A) (k : ℕ) (d : A) (e : B) → k < length xs
    → get_or (map f xs) k e ≡ f (get_or xs k d)
get_d_map f [] k d e l = absurd (not-suc-le-zero l)
get_d_map f (x ∷ xs) zero d e l = refl
get_d_map f (x ∷ xs) (suc k) d e l = get_d_map f xs k d e (le_of_suc-le-suc l)

-- number i of those below n
pub get_d-number : (n i : ℕ) → i < n → get_or (up_to n) i 0 ≡ i
get_d-number n i h =
    sym (get_d_map (λ (x : ℕ). x) (up_to n) i 0 0 (omega (arith, up_to_length n))) ∙ get_d_up_to (λ x. x) n i 0 h

-- lists made alike of the same entries
pub map_same : {A B : Type 0} (f g : A → B) (xs : List A) → ((x : A) → Memᴰ x xs → f x ≡ g x) → map f xs ≡ map g xs
map_same f g [] h = refl
map_same f g (x ∷ xs) h =
    rw (h x (Memᴰ.head refl), map_same f g xs (λ y m. h y (Memᴰ.tail m)))

-- ---- parts of a list

-- the entries from the first up to the last, as a slice of the code has them
abbrev pub slice_of : {A : Type 0} → ℕ → ℕ → List A → List A
slice_of first last xs = take (last - first) (drop first xs)

pub slice_part : {A : Type 0} (at n : ℕ) (xs : List A) → slice_of at (at + n) xs ≡ take n (drop at xs)
slice_part at n xs = let e : at + n - at ≡ n = omega arith in rw e

-- an entry of zeros
pub get_d-zeros : (n k : ℕ) → get_or (replicate {A = ℕ} n 0) k 0 ≡ 0
get_d-zeros zero k = refl
get_d-zeros (suc n) zero = refl
get_d-zeros (suc n) (suc k) = get_d-zeros n k
