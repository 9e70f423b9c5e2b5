-- The record reader as a function of the place and what the byte is, for texts of at most n records of w fields.
use Rattle.std.specs.Prelude.{◌≡◌, cond, Option, Some, None, ℕ, ◌+◌, ◌-◌, ◌*◌, ◌/◌, ◌^◌, ◌<◌, eqb, ltb, leb}
use Rattle.text.specs.declared.Byte.{Byte}
use Rattle.text.specs.declared.Byte.TheVariants.{Digit, Comma, Cr, Lf, Other}
use Rattle.text.specs.declared.Field.{Field}
use Rattle.text.specs.declared.Field.TheVariants.{Empty, Number, Ended}
use Rattle.text.specs.declared.Place.{Place}
use Rattle.text.specs.declared.Turn.{Turn}
use Rattle.text.specs.declared.Turn.TheVariants.{On, Word}
use Rattle.text.specs.declared.Last.{Last}
use Rattle.text.specs.declared.Last.TheVariants.{Records, Word as LastWord}

-- the place with k records and f fields of the next before it
abbrev pub at : ℕ → ℕ → Field → Place
at k f field = record { records = k; fields = f; field = field }

-- the places that occur: digits stand in a field of one of n records, and CR after one of n records
pub record InReach (w n : ℕ) (p : Place) : Type 0 where
  pub field_within : (v : ℕ) → p.field ≡ Number v → p.fields < w
  pub record_within : (v : ℕ) → p.field ≡ Number v → p.records < n
  pub ended-within : p.field ≡ Ended → p.records < n

-- a field's first byte
abbrev pub first : ℕ → ℕ → ℕ → Byte → Option Turn
first n k f (Digit d) = cond (ltb k n) (Some (On (at k f (Number d)))) None
first n k f Comma = None
first n k f Cr = None
first n k f Lf = None
first n k f Other = None

-- a byte after digits that write v: no digit after a leading zero, and none with which the number is 2^64 or more
abbrev pub later : ℕ → ℕ → ℕ → ℕ → Byte → Option Turn
later w k f v (Digit d) =
    cond (eqb v 0) None (cond (leb v ((2 ^ 64 - 1 - d) / 10)) (Some (On (at k f (Number (10 * v + d))))) None)
later w k f v Comma = cond (ltb (f + 1) w) (Some (Word v (at k (f + 1) Empty))) None
later w k f v Cr = cond (eqb (f + 1) w) (Some (Word v (at k (f + 1) Ended))) None
later w k f v Lf = None
later w k f v Other = None

-- the byte after a record's CR
abbrev pub ended : ℕ → Byte → Option Turn
ended k (Digit d) = None
ended k Comma = None
ended k Cr = None
ended k Lf = Some (On (at (k + 1) 0 Empty))
ended k Other = None

abbrev pub step_in : ℕ → ℕ → ℕ → ℕ → Field → Byte → Option Turn
step_in w n k f Empty b = first n k f b
step_in w n k f (Number v) b = later w k f v b
step_in w n k f Ended b = ended k b

abbrev pub step_of : ℕ → ℕ → Place → Byte → Option Turn
step_of w n p b = step_in w n p.records p.fields p.field b

-- the text's end: after a whole record, or in a record's last field
abbrev pub last_in : ℕ → ℕ → ℕ → Field → Option Last
last_in w k f Empty = cond (eqb f 0) (Some (Records k)) None
last_in w k f (Number v) = cond (eqb (f + 1) w) (Some (LastWord v (k + 1))) None
last_in w k f Ended = None

abbrev pub last_of : ℕ → Place → Option Last
last_of w p = last_in w p.records p.fields p.field
