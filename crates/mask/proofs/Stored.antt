-- Laws of masks that stand in a slice of words.
use mathlib.Core.Path.{◌≡◌, sym, ap, ◌∙◌}
use mathlib.Core.Logic.{⊎_elim}
use mathlib.Core.List.{List, [], ◌∷◌, ◌++◌}
use Prim.Native.Nat.{ℕ, suc, ◌+◌, ◌/◌, ◌%◌, ◌^◌, ◌≤◌, ◌<◌}
use native.Mathlib.Omega.{arith}
use lib.ListN.{length, get_or, take, set, length-set, length-append, get_or-append}
use lib.Seq.{get_or-set_same, get_or-set_other, get_or_at}
use Rattle.semantics.specs.Words.{of_words, words_of, states_in, words_for, in_words}
use Rattle.theory.proofs.Lists.{lt-or_ge, same_or_not}
use Rattle.theory.proofs.Words as words
use Rattle.mask.specs.Inner.Stored.{mask_at, first_masks, with_mask}

module _ (t : List ℕ) (n : ℕ) (fits : n ≤ states_in (length t)) where
  pub first-length : length (first_masks t n) ≡ n
  first-length = words.first-length t n

  pub first-at : (k d : ℕ) → k < n → get_or (first_masks t n) k d ≡ mask_at t k
  first-at k d h = words.first-at t n k d h

  -- what stands behind them is of no account
  pub first-cleared : (s : List ℕ) → first_masks (in_words (first_masks t n) ++ s) n ≡ first_masks t n
  first-cleared s =
      ap (first_masks (in_words (first_masks t n) ++ s)) (sym first-length) ∙ words.first_states_lem (first_masks t n) s

  -- the words of the first n masks
  pub first-words : ((k : ℕ) → get_or t k 0 < 2 ^ 64) → take (words_for n) t ≡ in_words (first_masks t n)
  first-words w = words.words_are t n (omega arith) w

-- the mask itself, the others, and one mask more
module _ (t : List ℕ) (n x : ℕ) where
  -- the low word and the high word
  low-set : List ℕ
  low-set = set t (words_for n) (x % 2 ^ 64)

  low-long : length low-set ≡ length t
  unfolding low-set
  low-long = length-set t (words_for n) (x % 2 ^ 64)

  pub with-same : n < states_in (length t) → mask_at (with_mask t n x) n ≡ x
  unfolding low-set
  with-same h =
      let room : words_for n + 1 < length low-set = omega (arith, low-long) in
      rw (
        get_or-set_same low-set (words_for n + 1) (x / 2 ^ 64) 0 room,
        get_or-set_other low-set (words_for n + 1) (words_for n) (x / 2 ^ 64) 0 (λ e. omega arith),
        get_or-set_same t (words_for n) (x % 2 ^ 64) 0 (omega arith),
      )
      (words.words_back x)

  pub with-other : (k : ℕ) → (k ≡ n → ⊥) → mask_at (with_mask t n x) k ≡ mask_at t k
  unfolding low-set
  with-other k ne =
      rw (
        get_or-set_other low-set (words_for n + 1) (words_for k + 1) (x / 2 ^ 64) 0 (λ e. ne (omega arith)),
        get_or-set_other low-set (words_for n + 1) (words_for k) (x / 2 ^ 64) 0 (λ e. omega arith),
        get_or-set_other t (words_for n) (words_for k + 1) (x % 2 ^ 64) 0 (λ e. omega arith),
        get_or-set_other t (words_for n) (words_for k) (x % 2 ^ 64) 0 (λ e. ne (omega arith)),
      )

  pub first-with : n < states_in (length t) → first_masks (with_mask t n x) (suc n) ≡ first_masks t n ++ (x ∷ [])
  first-with h =
      words.first-are (with_mask t n x) (suc n) (first_masks t n ++ (x ∷ []))
      (length-append (first_masks t n) (x ∷ []) ∙ (let e : length (first_masks t n) + 1 ≡ suc n = omega (arith, l) in e))
      (λ k b. ⊎_elim (before k) (last k b) (lt-or_ge k n))
    where
      l : length (first_masks t n) ≡ n
      l = words.first-length t n

      before : (k : ℕ) → k < n → mask_at (with_mask t n x) k ≡ get_or (first_masks t n ++ (x ∷ [])) k 0
      before k b =
          with-other k (λ e. omega arith) ∙ sym (words.first-at t n k 0 b)
          ∙ sym (get_or-append (first_masks t n) (x ∷ []) 0 k (omega (arith, l)))

      last : (k : ℕ) → k < suc n → n ≤ k → mask_at (with_mask t n x) k ≡ get_or (first_masks t n ++ (x ∷ [])) k 0
      last k b m =
          let e : k ≡ n = omega arith in
          ap (mask_at (with_mask t n x)) e ∙ with-same h ∙ sym (get_or_at (first_masks t n) x [] 0 k (l ∙ sym e))

-- one of the first n masks
pub first-set : (t : List ℕ) (n k x : ℕ) → k < n → k < states_in (length t)
    → first_masks (with_mask t k x) n ≡ set (first_masks t n) k x
first-set t n k x h fits =
    words.first-are (with_mask t k x) n (set (first_masks t n) k x)
    (length-set (first_masks t n) k x ∙ words.first-length t n)
    (λ j l. ⊎_elim (here j l) (there j l) (same_or_not j k))
  where
    here : (j : ℕ) → j < n → j ≡ k → mask_at (with_mask t k x) j ≡ get_or (set (first_masks t n) k x) j 0
    here j l e =
        rw e (with-same t k x fits ∙ sym (get_or-set_same (first_masks t n) k x 0 (omega (arith, words.first-length t n))))

    there : (j : ℕ) → j < n → (j ≡ k → ⊥) → mask_at (with_mask t k x) j ≡ get_or (set (first_masks t n) k x) j 0
    there j l ne =
        with-other t k x j ne ∙ sym (words.first-at t n j 0 l) ∙ sym (get_or-set_other (first_masks t n) k j x 0 ne)

-- as many words as before
pub with-length : (t : List ℕ) (k x : ℕ) → length (with_mask t k x) ≡ length t
with-length t k x =
    length-set (set t (words_for k) (x % 2 ^ 64)) (words_for k + 1) (x / 2 ^ 64) ∙ length-set t (words_for k) (x % 2 ^ 64)

-- its words, one after the other
pub stored : (t : List ℕ) (k low high : ℕ) → low < 2 ^ 64
    → set (set t (words_for k) low) (words_for k + 1) high ≡ with_mask t k (of_words low high)
stored t k low high h = rw (words.low_of low high h, words.high-of low high h)

-- both words in turn have their place
pub stored-room : (t : List ℕ) (k low : ℕ) → k < states_in (length t) → words_for k + 1 < length (set t (words_for k) low)
stored-room t k low h = omega (arith, length-set t (words_for k) low)

pub words-told : (low high : ℕ) → low < 2 ^ 64 → low ∷ high ∷ [] ≡ words_of (of_words low high)
words-told low high h = sym (words.words-of low high h)
