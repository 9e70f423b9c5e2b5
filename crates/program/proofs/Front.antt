-- The file of a text's first 50,351 bytes is the file of the text. Assumes nothing.
use mathlib.Core.Path.{◌≡◌, ap}
use mathlib.Core.Logic.{⊎_elim}
use mathlib.Core.List.{List}
use Prim.Native.Nat.{ℕ, ◌+◌, ◌≤◌, ◌<◌}
use native.Mathlib.Omega.{arith}
use lib.ListN.{length, take, replicate, length-take, length-replicate}
use lib.Seq.{take_all}
use Rattle.semantics.specs.Base.{refused}
use Rattle.semantics.specs.Text.{Reading, read_text}
use Rattle.theory.proofs.Lists.{lt-or_ge}
use Rattle.text.specs.Post.{most_words}
use Rattle.text.proofs.Longest.{most_bytes, long-refused}
use Rattle.program.specs.Program.{printed}

refuses : (text : List ℕ) → most_bytes < length text → (read_text text (replicate most_words 0)).answer ≡ refused 15
refuses text long =
    ap (λ (r : Reading). r.answer)
    (long-refused text (replicate most_words 0) long (omega (arith, length-replicate {A = ℕ} most_words 0)))

pub front_prints : (text : List ℕ) → printed (take (most_bytes + 1) text) ≡ printed text
unfolding printed
front_prints text =
    ⊎_elim
    (λ (long : most_bytes < length text).
    rw (refuses text long, refuses (take (most_bytes + 1) text) (omega (arith, length-take (most_bytes + 1) text))))
    (λ (short : length text ≤ most_bytes). ap printed (take_all (most_bytes + 1) text (omega arith)))
    (lt-or_ge most_bytes (length text))
