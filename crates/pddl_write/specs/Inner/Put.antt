-- Bytes put into a slice as far as it goes, and the place after them.
use Rattle.std.specs.Prelude.{◌≡◌, Bool, cond, List, [], ◌∷◌, ◌++◌, ℕ, ◌+◌, set, eqb, ltb}
use Rattle.semantics.specs.Task.{owner}
use Rattle.semantics.specs.Text.{digits}

-- a slice, and the place in it where the next byte goes
pub record Slot : Type 0 where
  pub out : List ℕ
  pub at : ℕ

abbrev pub slot : List ℕ → ℕ → Slot
slot out at = record { out = out; at = at }

-- no text is longer, and no place goes past this
abbrev pub most : ℕ
most = 1048576

unfoldable pub next : ℕ → ℕ
next at = cond (ltb at most) (at + 1) at

unfoldable pub put_all : List ℕ → Slot → Slot
put_all [] s = s
put_all (b ∷ bs) s = put_all bs (slot (set s.out s.at b) (next s.at))

-- p is put into the slice from `to` on, and `end` is the place after it
pub record Put (p before : List ℕ) (to : ℕ) (after : List ℕ) (end : ℕ) : Type 0 where
  pub done : slot after end ≡ put_all p (slot before to)

-- a number between bytes
abbrev pub between : List ℕ → List ℕ → ℕ → List ℕ
between before after v = before ++ (digits v ++ after)

-- bytes that are put only where a test holds
unfoldable pub chosen : Bool → List ℕ → List ℕ
chosen b p = cond b p []

-- 1 where a test holds, else 0
unfoldable pub one : Bool → ℕ
one b = cond b 1 0

-- action a is member i's
abbrev pub is_own : List ℕ → ℕ → ℕ → Bool
is_own t i a = eqb (owner t a) i
