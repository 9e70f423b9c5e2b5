-- What stands in a waits text at an offset where a record begins.
use Rattle.std.specs.Prelude.{◌≡◌, Bool, true, false, List, [], ◌∷◌, ℕ, ◌≤◌, ◌<◌, length, drop, Option, Some, None}
use Rattle.std.specs.Prelude.{Result, Ok, Err}
use Rattle.semantics.specs.Base.{all_of}
use Rattle.semantics.specs.Text.{records, is_record, text_words}
use Rattle.pddl_waits.specs.declared.Wait.{Wait}
use Rattle.refusal.specs.declared.Refusal.{Refusal}
use Rattle.refusal.specs.declared.Refusal.TheVariants as refusal

-- each record of the text has two fields
abbrev pub in_pairs : List ℕ → Bool
in_pairs text = all_of (is_record 2) (records text)

-- at offset i a record of the words a and f, and behind it offset j
pub record Next (waits : List ℕ) (i a f j : ℕ) : Type 0 where
  pub onward : i < j
  pub within : j ≤ length waits
  pub pairs : in_pairs (drop i waits) ≡ in_pairs (drop j waits)
  pub words : text_words (drop i waits) ≡ a ∷ f ∷ text_words (drop j waits)

-- a record, the text's end, or neither
abbrev pub WaitMeans : List ℕ → ℕ → Result (Option Wait) Refusal → Type 0
WaitMeans waits i (Ok (Some w)) = Next waits i w.action w.fact w.next
WaitMeans waits i (Ok None) = (in_pairs (drop i waits) ≡ true) × (text_words (drop i waits) ≡ [])
WaitMeans waits i (Err e) = (e ≡ refusal.Text) × (in_pairs (drop i waits) ≡ false)
