-- `program::of_text` meets its contract. Assumes nothing.
use mathlib.Core.Path.{◌≡◌, sym, ap, ◌∙◌}
use Prim.Native.Nat.{ℕ, ◌*◌}
use native.Mathlib.Omega.{arith}
use mathlib.Core.List.{List}
use lib.ListN.{length, replicate, length-replicate}
use lib.Seq.{length-take-le}
use Rattle.semantics.specs.Task.{row_width, check}
use Rattle.text.specs.Post.{most_words}
use Rattle.program.proofs.Laws.{words-of, prints_task, prints_refusal}
use Rattle.program.proofs.of_text.Goals as goal

-- the slice's length
long : (ws : List ℕ) → ws ≡ replicate most_words 0 → length ws ≡ most_words
long ws e = ap length e ∙ length-replicate {A = ℕ} most_words 0

pub overflow_mul-t : goal.overflow_mul-t
overflow_mul-t c =
    let e = long c.args.words.now c.requires.words_value in
    let w = words-of c.args.text.now c.args.words.now c.read.new.words (omega (arith, e)) c.read.result
    c.read.ensures c.in-Ok.n c.in-Ok.is in
    omega (arith, w.room, c.read.auto.words, e)

pub slice_bounds-t-end : goal.slice_bounds-t-end
slice_bounds-t-end c =
    let e = long c.args.words.now c.requires.words_value in
    let w = words-of c.args.text.now c.args.words.now c.read.new.words (omega (arith, e)) c.read.result
    c.read.ensures c.in-Ok.n c.in-Ok.is in
    w.room

pub slice_bounds-t-end-in-Ok : goal.slice_bounds-t-end-in-Ok
slice_bounds-t-end-in-Ok c =
    let e = long c.args.words.now c.requires.words_value in
    let w = words-of c.args.text.now c.args.words.now c.read.new.words (omega (arith, e)) c.read.result
    c.read.ensures c.in-Ok.n c.in-Ok.is in
    sym (length-take-le (row_width * c.in-Ok.n) c.read.new.words w.room)

pub invariant_of-t : goal.invariant_of-t
invariant_of-t c =
    let e = long c.args.words.now c.requires.words_value in
    let w = words-of c.args.text.now c.args.words.now c.read.new.words (omega (arith, e)) c.read.result
    c.read.ensures c.in-Ok.n c.in-Ok.is in
    record { accepted = ap check w.words-read ∙ w.task }

pub returns-in-Ok : goal.returns-in-Ok
returns-in-Ok c =
    let e = long c.args.words.now c.requires.words_value in
    let w = words-of c.args.text.now c.args.words.now c.read.new.words (omega (arith, e)) c.read.result
    c.read.ensures c.in-Ok.n c.in-Ok.is in
    prints_task c.args.text.now c.args.words.now c.read.new.words c.requires.words_value c.read.result
    c.read.ensures c.in-Ok.n w c.of_task.ensures

pub returns-in-Err : goal.returns-in-Err
returns-in-Err c =
    prints_refusal c.args.text.now c.args.words.now c.read.new.words c.requires.words_value c.read.result
    c.read.ensures c.in-Err.e c.in-Err.is (rw c.from.ensures at c.put_refusal.ensures)
