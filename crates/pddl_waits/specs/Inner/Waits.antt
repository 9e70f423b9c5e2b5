-- What is known of all waits of a text after one pass.
use Rattle.std.specs.Prelude.{◌≡◌, Bool, true, false, ◌&&◌, List, ℕ, ◌^◌, ◌<◌, length, ltb, max, Option, Some, None}
use Rattle.std.specs.Prelude.{Result, Ok, Err}
use Rattle.std.specs.Int.Bits.{bit_or}
use Rattle.semantics.specs.Base.{all_of}
use Rattle.semantics.specs.Words.{states_in}
use Rattle.semantics.specs.Text.{records, is_record, text_words}
use Rattle.semantics.specs.Pddl.{waits_known}
use Rattle.mask.specs.Inner.Stored.{mask_at, with_mask}
use Rattle.pddl_theory.specs.Inner.Limits.{most_facts}
use Rattle.pddl_words.specs.Inner.Built.{Waits}
use Rattle.refusal.specs.declared.Refusal.{Refusal}
use Rattle.refusal.specs.declared.Refusal.TheVariants as refusal
use Rattle.pddl_waits.specs.declared.Greatest.{Greatest}

-- fact f is among those for which action a waits, if the table has the action and f is below 128
pub record AddedIn (before : List ℕ) (a f : ℕ) (after : List ℕ) : Type 0 where
  pub size : length after ≡ length before
  pub here : a < states_in (length before) → f < most_facts
      → after ≡ with_mask before a (bit_or (mask_at before a) (2 ^ f))

-- the greatest numbers are below m and F, if there is a wait
abbrev pub within_of : Option Greatest → ℕ → ℕ → Bool
within_of None m F = true
within_of (Some g) m F = ltb g.action m && ltb g.fact F

-- the greatest numbers with a wait more
abbrev pub grown_of : Option Greatest → ℕ → ℕ → Greatest
grown_of None a f = record { action = a; fact = f }
grown_of (Some g) a f = record { action = max g.action a; fact = max g.fact f }

-- what was read of a waits text, and the table of masks then
pub record Read (waits table : List ℕ) (r : Option Greatest) : Type 0 where
  pub good : all_of (is_record 2) (records waits) ≡ true
  pub known : (m F : ℕ) → waits_known m F (text_words waits) ≡ within_of r m F
  pub masks : waits_known (states_in (length table)) most_facts (text_words waits) ≡ true
      → Waits (text_words waits) table

-- the same, or that it is none
abbrev pub WaitsIn : List ℕ → List ℕ → Result (Option Greatest) Refusal → Type 0
WaitsIn waits table (Ok r) = Read waits table r
WaitsIn waits table (Err e) = (e ≡ refusal.Text) × (all_of (is_record 2) (records waits) ≡ false)
