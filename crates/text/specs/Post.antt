-- What the answers mean.
use Rattle.std.specs.Prelude.{◌≡◌, true, false, List, ℕ, ◌*◌, ◌≤◌, length, take, Option, Some, None, Result}
use Rattle.semantics.specs.Task.{row_width}
use Rattle.semantics.specs.Text.{most_records, records, is_text, text_words, Reading}
use Rattle.refusal.specs.Number.{answered}
use Rattle.refusal.specs.declared.Refusal.{Refusal}

-- the words of a task's longest text
abbrev pub most_words : ℕ
most_words = row_width * most_records

-- a text of at most n records of w fields: r records, and their words at the front of the slice
pub record Found (w n : ℕ) (text out : List ℕ) (r : ℕ) : Type 0 where
  pub good : is_text w n text ≡ true
  pub count : r ≡ length (records text)
  pub room : w * r ≤ length out
  pub words : text_words text ≡ take (w * r) out

-- the text has so many records, and its words stand at the front of the slice; or it is none
abbrev pub ScanMeans : ℕ → ℕ → List ℕ → List ℕ → Option ℕ → Type 0
ScanMeans w n text out (Some r) = Found w n text out r
ScanMeans w n text out None = is_text w n text ≡ false

-- an answer, and the word slice after it
abbrev pub reading : Result ℕ Refusal → List ℕ → Reading
reading r words = record { answer = answered (λ n. n) r; words = words }
