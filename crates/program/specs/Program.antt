-- Document 01, "Text and verdict program": what the program lends the verdict, and the file that it makes of a text.
use Rattle.std.specs.Prelude.{◌≡◌, List, [], ◌++◌, ℕ, ◌+◌, ◌*◌, ◌≤◌, length, replicate}
use Rattle.semantics.specs.Base.{Answer, refused, gives, front}
use Rattle.semantics.specs.Task.{members}
use Rattle.semantics.specs.Text.{text_words, read_text}
use Rattle.semantics.specs.Verdict.{Slices, local_rows, configuration_rows, verdict_on}
use Rattle.text.specs.Post.{most_words}
use Rattle.report.specs.File.{word, header, line, file}

-- the words of the local table
abbrev pub local_words : ℕ
local_words = 4096

-- the words of the configuration table
abbrev pub configuration_words : ℕ
configuration_words = 8192

-- K and C of the task with these tables
abbrev pub K : List ℕ → ℕ
K t = local_rows t local_words

abbrev pub C : List ℕ → ℕ
C t = configuration_rows t configuration_words

-- the slices that the verdict is lent, all zero: the two tables, and the others just long enough
unfoldable pub lent_for : List ℕ → Slices
lent_for t =
    record {
      local_table = replicate local_words 0;
      marks = replicate (members t * K t) 0;
      configuration_table = replicate configuration_words 0;
      trail = replicate (2 * C t) 0;
      plans = replicate (C t + members t * K t) 0;
      ends = replicate (members t) 0;
      picks = replicate (C t) 0;
    }

-- the file of the verdict on the task; no byte of it depends on the trail, which is free
unfoldable pub reported : List ℕ → List ℕ
reported t =
    let j = verdict_on t (lent_for t) [] in
    file j.answer (members t) j.lent.plans j.lent.ends j.lent.picks

-- the reader's refusal, or the verdict on the task that the text writes
abbrev pub printed_for : Answer ℕ → List ℕ → List ℕ
printed_for (refused k) text = header ++ line (word "refused") k
printed_for (gives r) text = reported (text_words text)

-- the program: a text in, the bytes of its verdict file out
unfoldable pub printed : List ℕ → List ℕ
printed text = printed_for (read_text text (replicate most_words 0)).answer text

-- these bytes, r of them, stand at the front of the slice; the rest is as it was
pub record AtFront (bytes before after : List ℕ) (r : ℕ) : Type 0 where
  pub count : r ≡ length bytes
  pub inside : r ≤ length before
  pub held : after ≡ front bytes before
