-- Masks against sets of facts: a mask is the set of the facts that stand in it.
use mathlib.Core.Path.{◌≡◌, refl, sym, ap, ap₂, ◌∙◌}
use mathlib.Core.Logic.{⊎_elim}
use mathlib.Core.List.{[], ◌∷◌}
use mathlib.Core.Bool.{Bool, true, false, not, ◌&&◌, ◌||◌, false≢true}
use Prim.Native.Nat.{ℕ, zero, suc, ◌+◌, ◌-◌, ◌*◌, ◌/◌, ◌%◌, ◌^◌, ◌≤◌, ◌<◌, zero-le}
use native.Mathlib.Nat.{pow-suc, div-one, zero-div, div-eq_of_lt, div-div-eq-div-mul, sub-le, lt_of_lt_of_le}
use native.Mathlib.Nat.{lt_of_le_of_lt, pow-succ', mul_assoc}
use native.Mathlib.Omega.{arith}
use lib.ListN.{get_or}
use lib.Arith.{bin_ind}
use lib.Pow.{pow_mono}
use lib.Bits.{bit_and, bit_or, and_step, or_step, and_le_l, or_lt, shifted_half, or_shifted}
use borrow.Author.Tests.{ltb-true, lt-ltb, eqb-true, eq-eqb}
use Rattle.semantics.specs.Mask.{has, within, without, after, below}
use Rattle.semantics.specs.Words.{of_words}
use Rattle.semantics.specs.Model.{◌⊆◌}
use Rattle.semantics.specs.Demands.{facts_of}
use Rattle.theory.proofs.Lists.{lt-or_ge}

-- ---- one digit, then the next

even-has : (x : ℕ) → x % 2 ≡ 0 → has 0 x ≡ false
unfolding has
even-has x e = rw (div-one, e)

odd-has : (x : ℕ) → x % 2 ≡ 1 → has 0 x ≡ true
unfolding has
odd-has x e = rw (div-one, e)

-- fact 0 is the last digit
data Digit (x : ℕ) : Type 0 where
  even : x % 2 ≡ 0 → has 0 x ≡ false → Digit x
  odd : x % 2 ≡ 1 → has 0 x ≡ true → Digit x

digit : (x : ℕ) → Digit x
digit x = go (x % 2) refl (omega arith)
  where
    go : (d : ℕ) → x % 2 ≡ d → d < 2 → Digit x
    go zero e h = even e (even-has x e)
    go (suc zero) e h = odd e (odd-has x e)
    go (suc (suc d)) e h = absurd (omega arith)

-- the other facts are those of the half
pub has-suc : (f x : ℕ) → has (suc f) x ≡ has f (x / 2)
unfolding has
has-suc f x = rw (pow-succ', ← div-div-eq-div-mul x 2 (2 ^ f))

-- a law of facts holds where it holds at the last digit and passes to halves
digitwise : (op : ℕ → ℕ → ℕ) (g : Bool → Bool → Bool)
    → ((a b : ℕ) → op a b / 2 ≡ op (a / 2) (b / 2)) → ((a b : ℕ) → has 0 (op a b) ≡ g (has 0 a) (has 0 b))
    → (f a b : ℕ) → has f (op a b) ≡ g (has f a) (has f b)
digitwise op g half last zero a b = last a b
digitwise op g half last (suc f) a b =
    rw (has-suc f (op a b), half a b, has-suc f a, has-suc f b) (digitwise op g half last f (a / 2) (b / 2))

and_last : (a b : ℕ) → has 0 (bit_and a b) ≡ (has 0 a && has 0 b)
and_last a b = go (digit a) (digit b)
  where
    go : Digit a → Digit b → has 0 (bit_and a b) ≡ (has 0 a && has 0 b)
    go (even e h) y = rw h (even-has (bit_and a b) (omega (arith, and_step a b)))
    go (odd e h) (even e' h') = rw (h, h') (even-has (bit_and a b) (omega (arith, and_step a b)))
    go (odd e h) (odd e' h') = rw (h, h') (odd-has (bit_and a b) (omega (arith, and_step a b)))

or-last : (a b : ℕ) → has 0 (bit_or a b) ≡ (has 0 a || has 0 b)
or-last a b = go (digit a) (digit b)
  where
    go : Digit a → Digit b → has 0 (bit_or a b) ≡ (has 0 a || has 0 b)
    go (odd e h) y = rw h (odd-has (bit_or a b) (omega (arith, or_step a b)))
    go (even e h) (odd e' h') = rw (h, h') (odd-has (bit_or a b) (omega (arith, or_step a b)))
    go (even e h) (even e' h') = rw (h, h') (even-has (bit_or a b) (omega (arith, or_step a b)))

without-last : (s d : ℕ) → has 0 (without s d) ≡ (has 0 s && not (has 0 d))
without-last s d = go (digit s) (digit d)
  where
    go : Digit s → Digit d → has 0 (without s d) ≡ (has 0 s && not (has 0 d))
    go (even e h) y = rw h (even-has (without s d) (omega (arith, and_step s d, and_le_l s d)))
    go (odd e h) (even e' h') = rw (h, h') (odd-has (without s d) (omega (arith, and_step s d, and_le_l s d)))
    go (odd e h) (odd e' h') = rw (h, h') (even-has (without s d) (omega (arith, and_step s d, and_le_l s d)))

pub and-has : (f a b : ℕ) → has f (bit_and a b) ≡ (has f a && has f b)
and-has = digitwise bit_and ◌&&◌ (λ a b. omega (arith, and_step a b)) and_last

pub or-has : (f a b : ℕ) → has f (bit_or a b) ≡ (has f a || has f b)
or-has = digitwise bit_or ◌||◌ (λ a b. omega (arith, or_step a b)) or-last

pub without-has : (f s d : ℕ) → has f (without s d) ≡ (has f s && not (has f d))
without-has =
    digitwise without (λ x y. x && not y)
    (λ s d. omega (arith, and_step s d, and_le_l s d, and_le_l (s / 2) (d / 2)))
    without-last

-- the facts after an action
pub after-has : (s add del f : ℕ) → has f (after s add del) ≡ (has f s && not (has f del) || has f add)
unfolding after
after-has s add del f = or-has f (s - bit_and s del) add ∙ ap (λ (b : Bool). b || has f add) (without-has f s del)

-- ---- equal masks

pub zero_has : (f : ℕ) → has f 0 ≡ false
unfolding has
zero_has f = rw zero-div

half_same : (a b : ℕ) → ((f : ℕ) → has f a ≡ has f b) → (f : ℕ) → has f (a / 2) ≡ has f (b / 2)
half_same a b h f = sym (has-suc f a) ∙ h (suc f) ∙ has-suc f b

last-same : (a b : ℕ) → has 0 a ≡ has 0 b → a % 2 ≡ b % 2
last-same a b h = go (digit a) (digit b)
  where
    go : Digit a → Digit b → a % 2 ≡ b % 2
    go (even e k) (even e' k') = cc
    go (even e k) (odd e' k') = absurd (false≢true (cc))
    go (odd e k) (even e' k') = absurd (false≢true (cc))
    go (odd e k) (odd e' k') = cc

-- masks with the same facts are equal
pub mask_ext : (a b : ℕ) → ((f : ℕ) → has f a ≡ has f b) → a ≡ b
mask_ext =
    bin_ind (λ (a : ℕ). (b : ℕ) → ((f : ℕ) → has f a ≡ has f b) → a ≡ b)
    (bin_ind (λ (b : ℕ). ((f : ℕ) → has f 0 ≡ has f b) → 0 ≡ b) (λ h. refl)
    (λ b ih h. let e = ih (half_same 0 b h) in omega (arith, last-same 0 b (h 0))))
    (λ a ih b h. let e = ih (b / 2) (half_same a b h) in omega (arith, last-same a b (h 0)))

-- a mask that is not empty has a fact
pub some-fact : (m : ℕ) → ¬ (m ≡ 0) → (f : ℕ) × (has f m ≡ true)
some-fact =
    bin_ind (λ (m : ℕ). ¬ (m ≡ 0) → (f : ℕ) × (has f m ≡ true)) (λ n. absurd (n refl)) (λ m ih n. at m ih n (digit m))
  where
    at : (m : ℕ) → (¬ (m / 2 ≡ 0) → (f : ℕ) × (has f (m / 2) ≡ true)) → ¬ (m ≡ 0) → Digit m
        → (f : ℕ) × (has f m ≡ true)
    at m ih n (odd e h) = (0, h)
    at m ih n (even e h) = let f = ih (λ z. n (omega arith)) in (suc f.0, has-suc f.0 m ∙ f.1)

-- ---- inclusion

pub within-sub : (a b : ℕ) → within a b ≡ true → facts_of a ⊆ facts_of b
unfolding within
within-sub a b w f h =
    let e = eqb-true (bit_and a b) a w in
    let k : (has f a && has f b) ≡ true = sym (and-has f a b) ∙ ap (has f) e ∙ h in
    rw h at k

pub sub_within : (a b : ℕ) → facts_of a ⊆ facts_of b → within a b ≡ true
unfolding within
sub_within a b h = eq-eqb (bit_and a b) a (mask_ext (bit_and a b) a λ f. and-has f a b ∙ go f (has f a) refl)
  where
    go : (f : ℕ) (x : Bool) → has f a ≡ x → (has f a && has f b) ≡ has f a
    go f true e = rw e (h f e)
    go f false e = rw e

-- ---- the facts below F

pub below-has : (F x : ℕ) → below F x ≡ true → (f : ℕ) → F ≤ f → has f x ≡ false
unfolding below has
below-has F x b f h = rw (div-eq_of_lt (lt_of_lt_of_le (ltb-true x (2 ^ F) b) (pow_mono h)))

small : (F x : ℕ) → ((f : ℕ) → F ≤ f → has f x ≡ false) → x < 2 ^ F
small zero x h = let e = mask_ext x 0 (λ f. h f zero-le ∙ sym (zero_has f)) in omega arith
small (suc F) x h =
    let k = small F (x / 2) (λ f l. sym (has-suc f x) ∙ h (suc f) (omega arith)) in
    omega (arith, pow-suc 2 F)

pub has-below : (F x : ℕ) → ((f : ℕ) → F ≤ f → has f x ≡ false) → below F x ≡ true
unfolding below
has-below F x h = lt-ltb x (2 ^ F) (small F x h)

pub after-below : (F s add del : ℕ) → below F s ≡ true → below F add ≡ true → below F (after s add del) ≡ true
unfolding below after
after-below F s add del hs ha =
    lt-ltb (after s add del) (2 ^ F)
    (or_lt F (s - bit_and s del) add (lt_of_le_of_lt (sub-le s (bit_and s del)) (ltb-true s (2 ^ F) hs))
    (ltb-true add (2 ^ F) ha))

-- ---- masks in two words

even-none : (x : ℕ) → has 0 (x * 2) ≡ false
even-none x = even-has (x * 2) (omega arith)

-- a number of so many digits more has its facts so much higher
shifted_low : (k f a : ℕ) → f < k → has f (a * 2 ^ k) ≡ false
shifted_low zero f a h = absurd (omega arith)
shifted_low (suc k) zero a h =
    let e : a * 2 ^ suc k ≡ a * 2 ^ k * 2 = ap (λ (x : ℕ). a * x) (pow-suc 2 k) ∙ sym (mul_assoc a (2 ^ k) 2) in
    ap (has 0) e ∙ even-none (a * 2 ^ k)
shifted_low (suc k) (suc f) a h =
    has-suc f (a * 2 ^ suc k) ∙ ap (has f) (shifted_half a k) ∙ shifted_low k f a (omega arith)

shifted_high : (k f a : ℕ) → has (k + f) (a * 2 ^ k) ≡ has f a
shifted_high zero f a =
    let e : a * 2 ^ 0 ≡ a = omega arith in
    let z : 0 + f ≡ f = omega arith in
    ap₂ has z e
shifted_high (suc k) f a =
    let z : suc k + f ≡ suc (k + f) = omega arith in
    ap (λ (n : ℕ). has n (a * 2 ^ suc k)) z ∙ has-suc (k + f) (a * 2 ^ suc k) ∙ ap (has (k + f)) (shifted_half a k)
    ∙ shifted_high k f a

-- fact f stands in a mask where bit f mod 64 of its word f / 64 is set
pub word-has : (f low high : ℕ) → f < 128 → low < 2 ^ 64
    → has f (of_words low high) ≡ has (f % 64) (get_or (low ∷ high ∷ []) (f / 64) 0)
unfolding below
word-has f low high few small = ⊎_elim lower upper (lt-or_ge f 64)
  where
    or_no : (b : Bool) → (b || false) ≡ b
    or_no true = refl
    or_no false = refl

    both : has f (of_words low high) ≡ (has f (high * 2 ^ 64) || has f low)
    both = ap (has f) (sym (or_shifted high 64 low small)) ∙ or-has f (high * 2 ^ 64) low

    lower : f < 64 → has f (of_words low high) ≡ has (f % 64) (get_or (low ∷ high ∷ []) (f / 64) 0)
    lower h =
        let d : f / 64 ≡ 0 = omega arith in
        let m : f % 64 ≡ f = omega arith in
        both ∙ ap (λ (b : Bool). b || has f low) (shifted_low 64 f high h) ∙ rw (d, m)

    upper : 64 ≤ f → has f (of_words low high) ≡ has (f % 64) (get_or (low ∷ high ∷ []) (f / 64) 0)
    upper h =
        let d : f / 64 ≡ 1 = omega arith in
        let e : f ≡ 64 + f % 64 = omega arith in
        let none = below-has 64 low (lt-ltb low (2 ^ 64) small) f h in
        both ∙ ap (λ (b : Bool). has f (high * 2 ^ 64) || b) none
        ∙ or_no (has f (high * 2 ^ 64))
        ∙ ap (λ (n : ℕ). has n (high * 2 ^ 64)) e ∙ shifted_high 64 (f % 64) high ∙ rw d
