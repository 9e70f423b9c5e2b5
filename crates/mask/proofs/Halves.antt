-- A mask is its two words: what holds of both words holds of the mask. Assumes nothing.
use mathlib.Core.Path.{◌≡◌, refl, sym, ap, ◌∙◌}
use mathlib.Core.Bool.{Bool, true, false, not, ◌&&◌}
use Prim.Native.Nat.{ℕ, ◌+◌, ◌-◌, ◌*◌, ◌/◌, ◌%◌, ◌^◌, ◌≤◌, ◌<◌}
use native.Mathlib.Nat.{div-eq_of_lt, lt-div-mul-add, lt_of_lt_of_le, zero-mul}
use native.Mathlib.Omega.{arith}
use lib.Dec.{eqb, ltb}
use lib.Bits.{bit_and, bit_or, and_block, or_block, and_le_l, and_lt}
use lib.Pow.{pow_pos, pow_mono, pow-add}
use borrow.Author.Tests.{eq-eqb, ne_eqb, eqb-true, ltb-true, ltb-false, lt-ltb, le-ltb, not-true, not-false}
use Rattle.semantics.specs.Mask.{has, within, without, after, below}
use Rattle.semantics.specs.Words.{of_words}
use Rattle.theory.proofs.Lists.{test_ext, and_elim, and_intro}
use Rattle.theory.proofs.Masks.{word-has}

-- ---- a word by itself

-- a shift tells whether a number has a bit at or above F
pub shift_below : (F x : ℕ) → eqb (x / 2 ^ F) 0 ≡ below F x
unfolding below
shift_below F x = told (ltb x (2 ^ F)) refl
  where
    not-zero : 2 ^ F ≤ x → x / 2 ^ F ≡ 0 → ⊥
    not-zero h e = omega (arith, lt-div-mul-add {a = x} (pow_pos F), ap (λ (q : ℕ). q * 2 ^ F) e, zero-mul (2 ^ F))

    told : (b : Bool) → ltb x (2 ^ F) ≡ b → eqb (x / 2 ^ F) 0 ≡ b
    told true h = eq-eqb (x / 2 ^ F) 0 (div-eq_of_lt (ltb-true x (2 ^ F) h))
    told false h = ne_eqb (x / 2 ^ F) 0 (not-zero (ltb-false x (2 ^ F) h))

-- without, then with
pub after-word : (s a d x : ℕ) → x ≡ without s d → bit_or x a ≡ after s a d
unfolding after
after-word s a d x e = ap (λ (y : ℕ). bit_or y a) e

-- a word has no bit at or above 64
pub word_below : (F x : ℕ) → 64 ≤ F → x < 2 ^ 64 → true ≡ below F x
unfolding below
word_below F x h w = sym (lt-ltb _ _ (lt_of_lt_of_le w (pow_mono h)))

-- ---- both words

module _ (a b c d : ℕ) (la : a < 2 ^ 64) (lc : c < 2 ^ 64) where
  -- masks are the same that have the same words
  pub same-words : eqb (of_words a b) (of_words c d) ≡ (eqb a c && eqb b d)
  same-words = test_ext (eqb (of_words a b) (of_words c d)) (eqb a c && eqb b d) apart together
    where
      apart : eqb (of_words a b) (of_words c d) ≡ true → (eqb a c && eqb b d) ≡ true
      apart h =
          let e = eqb-true (of_words a b) (of_words c d) h in
          let low : a ≡ c = omega arith in
          let high : b ≡ d = omega arith in
          and_intro (eq-eqb a c low) (eq-eqb b d high)

      together : (eqb a c && eqb b d) ≡ true → eqb (of_words a b) (of_words c d) ≡ true
      together h =
          let (l, r) = and_elim (eqb a c) (eqb b d) h in
          let low = eqb-true a c l in
          let high = eqb-true b d r in
          eq-eqb (of_words a b) (of_words c d) (omega arith)

  and-words : bit_and (of_words a b) (of_words c d) ≡ of_words (bit_and a c) (bit_and b d)
  and-words = and_block 64 b d a c la lc

pub within-words : (a b c d : ℕ) → a < 2 ^ 64 → c < 2 ^ 64
    → within (of_words a b) (of_words c d) ≡ (within a c && within b d)
unfolding within
within-words a b c d la lc =
    ap (λ (x : ℕ). eqb x (of_words a b)) (and-words a b c d la lc)
    ∙ same-words (bit_and a c) (bit_and b d) a b (and_lt 64 a c la lc) la

pub without-words : (a b c d : ℕ) → a < 2 ^ 64 → c < 2 ^ 64
    → without (of_words a b) (of_words c d) ≡ of_words (without a c) (without b d)
without-words a b c d la lc =
    let x = and-words a b c d la lc in
    let low = and_le_l a c in
    let high = and_le_l b d in
    omega (arith, x, low, high)

pub after-words : (s s' a a' d d' : ℕ) → s < 2 ^ 64 → a < 2 ^ 64 → d < 2 ^ 64
    → after (of_words s s') (of_words a a') (of_words d d') ≡ of_words (after s a d) (after s' a' d')
unfolding after
after-words s s' a a' d d' ls la ld =
    let fits : without s d < 2 ^ 64 = omega arith in
    ap (λ (y : ℕ). bit_or y (of_words a a')) (without-words s s' d d' ls ld)
    ∙ or_block 64 (without s' d') a' (without s d) a fits la

module _ (F a b : ℕ) (la : a < 2 ^ 64) where
  -- from 64 facts on the high word tells
  pub below-high : 64 ≤ F → below (F - 64) b ≡ below F (of_words a b)
  unfolding below
  below-high h = test_ext (ltb b (2 ^ (F - 64))) (ltb (of_words a b) (2 ^ F)) up down
    where
      power : 2 ^ F ≡ 2 ^ (F - 64) * 2 ^ 64
      power = let e : F ≡ (F - 64) + 64 = omega arith in ap (λ (k : ℕ). 2 ^ k) e ∙ pow-add 2 (F - 64) 64

      up : ltb b (2 ^ (F - 64)) ≡ true → ltb (of_words a b) (2 ^ F) ≡ true
      up l = lt-ltb (of_words a b) (2 ^ F) (omega (arith, power, ltb-true b (2 ^ (F - 64)) l))

      down : ltb (of_words a b) (2 ^ F) ≡ true → ltb b (2 ^ (F - 64)) ≡ true
      down l = lt-ltb b (2 ^ (F - 64)) (omega (arith, power, ltb-true (of_words a b) (2 ^ F) l))

  short : F < 64 → F ≤ 64
  short h = omega arith

  -- below that it is zero
  pub below-some : F < 64 → (b ≡ 0 → ⊥) → false ≡ below F (of_words a b)
  unfolding below
  below-some h n = sym (le-ltb (of_words a b) (2 ^ F) (omega (arith, pow_mono (short h))))

  pub below-low : b ≡ 0 → below F a ≡ below F (of_words a b)
  below-low e = let s : of_words a b ≡ a = omega arith in ap (below F) (sym s)

-- ---- the functions' ways out

module _ (a b c d : ℕ) (la : a < 2 ^ 64) (lc : c < 2 ^ 64) where
  pub other-low : (a ≡ c → ⊥) → false ≡ eqb (of_words a b) (of_words c d)
  other-low h = rw (same-words a b c d la lc, ne_eqb a c h)

  pub same_low : a ≡ c → eqb b d ≡ eqb (of_words a b) (of_words c d)
  same_low e = rw (same-words a b c d la lc, eq-eqb a c e)

  -- of masks compared word by word
  module _ (w : Bool) (e : w ≡ within a c) where
    pub outside_low : not w ≡ true → false ≡ within (of_words a b) (of_words c d)
    outside_low h = rw (within-words a b c d la lc, ← e, not-true w h)

    pub within_low : not w ≡ false → (v : Bool) → v ≡ within b d → v ≡ within (of_words a b) (of_words c d)
    within_low h v k = rw (within-words a b c d la lc, ← e, not-false w h, ← k)

-- each fact of a stands in b where none of a is left without those of b
pub within-none : (a b : ℕ) → eqb (without a b) 0 ≡ within a b
unfolding within
within-none a b =
    let l : bit_and a b ≤ a = and_le_l a b in
    test_ext _ _ (λ h. eq-eqb (bit_and a b) a (omega (arith, eqb-true (a - bit_and a b) 0 h, l)))
    (λ h. eq-eqb (a - bit_and a b) 0 (omega (arith, eqb-true (bit_and a b) a h, l)))

pub without-both : (a b c d x y : ℕ) → a < 2 ^ 64 → c < 2 ^ 64 → x ≡ without a c → y ≡ without b d
    → of_words x y ≡ without (of_words a b) (of_words c d)
without-both a b c d x y la lc e k = rw (without-words a b c d la lc, ← e, ← k)

pub after_both : (s s' a a' d d' x y : ℕ) → s < 2 ^ 64 → a < 2 ^ 64 → d < 2 ^ 64 → x ≡ after s a d → y ≡ after s' a' d'
    → of_words x y ≡ after (of_words s s') (of_words a a') (of_words d d')
after_both s s' a a' d d' x y ls la ld e k = rw (after-words s s' a a' d d' ls la ld, ← e, ← k)

module _ (F a b : ℕ) (la : a < 2 ^ 64) (w : Bool) where
  pub below-by-high : 64 ≤ F → w ≡ below (F - 64) b → w ≡ below F (of_words a b)
  below-by-high h e = e ∙ below-high F a b la h

  pub below-by-low : b ≡ 0 → w ≡ below F a → w ≡ below F (of_words a b)
  below-by-low h e = e ∙ below-low F a b la h

-- a fact stands in its word
module _ (f a b : ℕ) (la : a < 2 ^ 64) (w : Bool) where
  pub has-by-low : f < 64 → w ≡ has f a → w ≡ has f (of_words a b)
  has-by-low h e =
      let d : f / 64 ≡ 0 = omega arith in
      let m : f % 64 ≡ f = omega arith in
      e ∙ sym (word-has f a b (omega arith) la ∙ rw (d, m))

  pub has-by-high : f < 128 → 64 ≤ f → w ≡ has (f - 64) b → w ≡ has f (of_words a b)
  has-by-high k h e =
      let d : f / 64 ≡ 1 = omega arith in
      let m : f % 64 ≡ f - 64 = omega arith in
      e ∙ sym (word-has f a b k la ∙ rw (d, m))
