-- Masks and rows that are put into a table, word behind word.
use mathlib.Core.Path.{◌≡◌, subst}
use mathlib.Core.List.{List, ◌∷◌, ◌++◌}
use Prim.Native.Nat.{ℕ, ◌+◌, ◌/◌, ◌%◌, ◌^◌, ◌≤◌, ◌<◌}
use native.Mathlib.Omega.{arith}
use lib.ListN.{length, get_or, set, length-set}
use Rattle.semantics.specs.Words.{of_words, words_of, row_words}
use Rattle.semantics.specs.Task.{row_width}
use Rattle.theory.proofs.Words.{low_of, high-of}
use Rattle.pddl_theory.specs.Inner.Appended.{Appended}
use Rattle.pddl_theory.proofs.Appending.{one, both}
use Rattle.pddl_words.specs.Inner.Built.{head_words}

-- ---- a mask

module _ (t : List ℕ) (at : ℕ) (room : at + 2 ≤ length t) where
  pub mask-room : (x : ℕ) → at + 1 < length (set t at x)
  mask-room x = omega (arith, length-set t at x)

  pub mask-put : (m : ℕ) (w : List ℕ) → w ≡ words_of m
      → Appended t at (words_of m) (set (set t at (get_or w 0 0)) (at + 1) (get_or w 1 0))
  mask-put m w e =
      rw e
      (both (one t at (m % 2 ^ 64) (omega arith))
      (one (set t at (m % 2 ^ 64)) (at + 1) (m / 2 ^ 64) (mask-room (m % 2 ^ 64))))

-- ---- two masks

module _ (t : List ℕ) (at a b : ℕ) (room : at + 4 ≤ length t) (t₁ : List ℕ) (p₁ : Appended t at (words_of a) t₁) where
  pub next-room : at + 2 + 2 ≤ length t₁
  next-room = omega (arith, p₁.kept)

  module _ (t₂ : List ℕ) (p₂ : Appended t₁ (at + 2) (words_of b) t₂) where
    pub masks-put : Appended t at (words_of a ++ words_of b) t₂
    masks-put = both p₁ p₂

    pub masks-long : length t₂ ≡ length t
    masks-long = masks-put.kept

-- ---- a row

module _ (t : List ℕ) (at n a b c d : ℕ) (room : at + row_width ≤ length t) where
  pub first-room : at + 1 + 4 ≤ length (set t at n)
  first-room = omega (arith, length-set t at n)

  module _ (t₁ : List ℕ) (p₁ : Appended (set t at n) (at + 1) (words_of a ++ words_of b) t₁) where
    half_row : Appended t at (n ∷ (words_of a ++ words_of b)) t₁
    half_row = both (one t at n (omega arith)) p₁

    pub last-room : at + 5 + 4 ≤ length t₁
    last-room = omega (arith, half_row.kept)

    module _ (t₂ : List ℕ) (p₂ : Appended t₁ (at + 5) (words_of c ++ words_of d) t₂) where
      pub row_put : Appended t at (row_words n a b c d) t₂
      row_put = both half_row p₂

      pub row-long : length t₂ ≡ length t
      row-long = row_put.kept

-- ---- row 0

pub head-put : (t u : List ℕ) (f n m i x y z : ℕ) → n < 2 ^ 64 → x ≡ of_words n m → y ≡ 0 → z ≡ 0
    → Appended t 0 (row_words f x i y z) u → Appended t 0 (head_words f n m i) u
head-put t u f n m i x y z h ex ey ez p =
    let words : row_words f x i y z ≡ head_words f n m i = rw (ex, ey, ez, low_of n m h, high-of n m h) in
    subst (λ (w : List ℕ). Appended t 0 w u) words p
