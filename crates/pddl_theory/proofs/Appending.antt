-- Words at the front of a table, some behind others.
use mathlib.Core.Path.{◌≡◌, refl, sym, ap, subst, ◌∙◌}
use mathlib.Core.List.{List, [], ◌∷◌, ◌++◌, append_assoc, append-nil}
use Prim.Native.Nat.{ℕ, ◌+◌, ◌≤◌, ◌<◌}
use native.Mathlib.Nat.{add-zero}
use native.Mathlib.Numerals.{add-one}
use native.Mathlib.Omega.{arith}
use lib.ListN.{length, take, set, length-set, length-append}
use lib.Seq.{take-suc-set}
use Rattle.pddl_theory.specs.Inner.Appended.{row, Appended}

-- none
pub none : (t : List ℕ) (at : ℕ) → Appended t at [] t
none t at =
    record { kept = refl; front = ap (λ (k : ℕ). take k t) (add-zero at) ∙ sym (append-nil (take at t)) }

-- one
pub one : (t : List ℕ) (at x : ℕ) → at < length t → Appended t at (x ∷ []) (set t at x)
one t at x h =
    record {
      kept = length-set t at x;
      front = ap (λ (k : ℕ). take k (set t at x)) (add-one at) ∙ take-suc-set t at x h;
    }

-- some behind others
pub both : {t u v xs ys : List ℕ} {at : ℕ} → Appended t at xs u → Appended u (at + length xs) ys v
    → Appended t at (xs ++ ys) v
both {t} {u} {v} {xs} {ys} {at} p q =
    let ends : at + length (xs ++ ys) ≡ at + length xs + length ys = omega (arith, length-append xs ys) in
    record {
      kept = q.kept ∙ p.kept;
      front = ap (λ (k : ℕ). take k v) ends ∙ q.front ∙ ap (λ (l : List ℕ). l ++ ys) p.front
          ∙ append_assoc (take at t) xs ys;
    }

-- ---- a row

module _ (t : List ℕ) (at a b c d : ℕ) (room : at + 5 ≤ length t) where
  abbrev t₁ : List ℕ
  t₁ = set t at a

  abbrev t₂ : List ℕ
  t₂ = set t₁ (at + 1) b

  abbrev t₃ : List ℕ
  t₃ = set t₂ (at + 2) c

  abbrev t₄ : List ℕ
  t₄ = set t₃ (at + 3) d

  first : Appended t at (a ∷ []) t₁
  first = one t at a (omega arith)

  pub room_2 : at + 1 < length t₁
  room_2 = omega (arith, first.kept)

  second : Appended t at (a ∷ b ∷ []) t₂
  second = both first (one t₁ (at + 1) b room_2)

  pub room_3 : at + 2 < length t₂
  room_3 = omega (arith, second.kept)

  third : Appended t at (a ∷ b ∷ c ∷ []) t₃
  third = both second (one t₂ (at + 2) c room_3)

  pub room_4 : at + 3 < length t₃
  room_4 = omega (arith, third.kept)

  fourth : Appended t at (a ∷ b ∷ c ∷ d ∷ []) t₄
  fourth = both third (one t₃ (at + 3) d room_4)

  pub room_5 : at + 4 < length t₄
  room_5 = omega (arith, fourth.kept)

  pub whole_row : (e : ℕ) → Appended t at (row a b c d e) (set t₄ (at + 4) e)
  whole_row e = both fourth (one t₄ (at + 4) e room_5)

-- ---- a loop

-- whatever appends the rest to the table as it is now appends all to the first
pub record Still (before : List ℕ) (from : ℕ) (all now : List ℕ) (at : ℕ) (rest : List ℕ) : Type 0 where
  pub then : (after : List ℕ) → Appended now at rest after → Appended before from all after

pub still-begin : (t : List ℕ) (at : ℕ) (xs : List ℕ) → Still t at xs t at xs
still-begin t at xs = record { then = λ v p. p }

module _ {before : List ℕ} {from : ℕ} {all now : List ℕ} {at : ℕ} {rest : List ℕ}
    (s : Still before from all now at rest) where
  pub still-on : (xs ys u : List ℕ) (next : ℕ) → rest ≡ xs ++ ys → Appended now at xs u → next ≡ at + length xs
      → Still before from all u next ys
  still-on xs ys u next e p n =
      record {
        then = λ v q.
            s.then v (subst (λ (l : List ℕ). Appended now at l v) (sym e)
            (both p (subst (λ (k : ℕ). Appended u k ys v) n q)));
      }

  pub still-end : rest ≡ [] → Appended before from all now
  still-end e = s.then now (subst (λ (l : List ℕ). Appended now at l now) (sym e) (none now at))
