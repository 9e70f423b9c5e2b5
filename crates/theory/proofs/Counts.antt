-- What a pick's answer makes of a run with its change number, case by case. Assumes nothing.
use mathlib.Core.Path.{◌≡◌, refl}
use mathlib.Core.Bool.{Bool, true, false}
use Prim.Native.Nat.{ℕ, ◌+◌}
use lib.Dec.{eqb}
use borrow.Author.Tests.{eqb-true, eqb-false}
use Rattle.semantics.specs.Base.{◌if◌, Answer, refused, gives, unless}
use Rattle.semantics.specs.Run.{Run, Replied}
use Rattle.semantics.specs.Dispatch.{Numbered, last_change, counts}

module _ {State : Type 0} (d : Numbered State) where
  -- the run after one pick more
  abbrev pub counted : Replied (Run State) → Replied (Numbered State)
  counted p = record { reply = p.reply; run = record { run = p.run; change = d.change + 1 } }

  -- the pick is refused; or the change number is the last one; or the pick is done and counted
  pub data Counted : Answer (Replied (Run State)) → Answer (Replied (Numbered State)) → Type 0 where
    none : {k : ℕ} → Counted (refused k) (refused k)
    full : {p : Replied (Run State)} → d.change ≡ last_change → Counted (gives p) (refused 20)
    done : {p : Replied (Run State)} → ¬ (d.change ≡ last_change) → Counted (gives p) (gives (counted p))

  pub counting : (x : Answer (Replied (Run State))) → Counted x (counts d x)
  counting (refused k) = none
  counting (gives p) = at (eqb d.change last_change) refl
    where
      at : (b : Bool) → eqb d.change last_change ≡ b → Counted (gives p) (unless (20 if b) (gives (counted p)))
      at true e = full (eqb-true d.change last_change e)
      at false e = done (eqb-false d.change last_change e)
