-- The words of a task, row by row; what the check has said of row 0 and of the goal rows. Assumes nothing.
use mathlib.Core.Path.{◌≡◌, refl, sym, ap, ap₂, ◌∙◌}
use mathlib.Core.Bool.{true}
use mathlib.Core.List.{List, ◌++◌, map, flatten}
use Prim.Native.Nat.{ℕ, zero, suc, ◌+◌, ◌-◌, ◌*◌, ◌≤◌, ◌<◌}
use native.Mathlib.Omega.{arith}
use lib.ListN.{length, get_or, take, drop, length-map, length-drop}
use lib.Seq.{ext_get_or, take-add, drop-drop, get_or-take, get_or-drop, length-take-le}
use lib.Dec.{eqb}
use borrow.Author.Tests.{eqb-true}
use Rattle.semantics.specs.Base.{numbers_from, up_to}
use Rattle.semantics.specs.Task.{row_width, word, zeros_from}
use Rattle.theory.proofs.Lists.{all_true, mem_up_to, up_to_length, get_d_up_to}

-- ---- rows of a list

abbrev pub row_at : List ℕ → ℕ → List ℕ
row_at t r = map (word t r) (up_to row_width)

-- w words from word p on
window : (t : List ℕ) (p w : ℕ) → p + w ≤ length t → take w (drop p t) ≡ map (λ k. get_or t (p + k) 0) (up_to w)
window t p w h =
    let its : ℕ → ℕ = λ k. get_or t (p + k) 0 in
    let long : length (take w (drop p t)) ≡ w = length-take-le w (drop p t) (omega (arith, length-drop p t)) in
    let same : length (map its (up_to w)) ≡ w = length-map (up_to w) its ∙ up_to_length w in
    ext_get_or 0 (take w (drop p t)) (map its (up_to w)) (long ∙ sym same)
    (λ k l.
    let b : k < w = omega (arith, long) in
    get_or-take w (drop p t) k 0 b ∙ get_or-drop p t k 0 ∙ sym (get_d_up_to its w k 0 b))

-- c rows from row j on
pub rows-from : (t : List ℕ) (j c : ℕ) → row_width * (j + c) ≤ length t
    → take (row_width * c) (drop (row_width * j) t) ≡ flatten (map (row_at t) (numbers_from j c))
unfolding flatten numbers_from
rows-from t j zero h = refl
rows-from t j (suc c) h =
    let e : row_width * suc c ≡ row_width + row_width * c = omega arith in
    let p : row_width * j + row_width ≡ row_width * suc j = omega arith in
    ap (λ (x : ℕ). take x (drop (row_width * j) t)) e ∙ take-add row_width (row_width * c) (drop (row_width * j) t)
    ∙ ap₂ (λ (xs ys : List ℕ). xs ++ ys) (window t (row_width * j) row_width (omega arith))
    (ap (take (row_width * c)) (drop-drop row_width (row_width * j) t ∙ ap (λ (x : ℕ). drop x t) p)
    ∙ rows-from t (suc j) c (omega arith))

-- ---- a row's last words

pub zero_word : (t : List ℕ) (r k : ℕ) → zeros_from t r k ≡ true → (j : ℕ) → j < row_width - k → word t r (k + j) ≡ 0
zero_word t r k h j l =
    eqb-true (word t r (k + j)) 0 (all_true (λ i. eqb (word t r (k + i)) 0) h (mem_up_to {i = j} {n = row_width - k} l))
