-- The words of a run, and what a pick, a commit and an ask tell. Assumes nothing.
use mathlib.Core.Path.{◌≡◌, sym, ap, ◌∙◌}
use mathlib.Core.Bool.{false}
use mathlib.Core.List.{List, [], ◌∷◌, map}
use Prim.Native.Nat.{ℕ, zero, suc, ◌+◌, ◌≤◌}
use native.Mathlib.Nat.{add-zero}
use native.Mathlib.Omega.{arith}
use lib.ListN.{length, get_or}
use lib.Dec.{ltb}
use lib.Seq.{slice, slice_empty, slice-cons}
use borrow.Author.Tests.{ltb-false}
use Rattle.semantics.specs.Base.{numbers_from}
use Rattle.semantics.specs.Words.{of_words, words_of}
use Rattle.theory.proofs.Lists.{or-false_elim}
use Rattle.mask.specs.Number.{number}
use Rattle.mask.specs.declared.Mask.{Mask}
use Rattle.std.specs.Prelude.{Option}
use Rattle.fault.specs.declared.Fault.{Fault}
use Rattle.run_pick.specs.Value.{closed_of, run_of}
use Rattle.run_ticket.specs.Value.{numbered_of}
use Rattle.run_ticket.specs.declared.Numbered.{Numbered}
use Rattle.capi_run.specs.Runs.{run_words, no_run, closed_in, closed_word, open_in, words_of_run}

-- ---- the words of a run

-- the entries of a part, one by one
pub entries : (l : List ℕ) (f n : ℕ) → f + n ≤ length l → map (λ k. get_or l k 0) (numbers_from f n) ≡ slice f (f + n) l
unfolding numbers_from
entries l f zero h = sym (ap (λ (t : ℕ). slice f t l) (add-zero f) ∙ slice_empty f l)
entries l f (suc n) h =
    let e : suc f + n ≡ f + suc n = omega arith in
    ap (λ (r : List ℕ). get_or l f 0 ∷ r) (entries l (suc f) n (omega arith) ∙ ap (λ (t : ℕ). slice (suc f) t l) e)
    ∙ sym (slice-cons f (f + suc n) l 0 (omega arith) h)

-- words that hold a run are enough
pub run-words : (words : List ℕ) → no_run words ≡ false → run_words ≤ length words
run-words words h = ltb-false (length words) run_words (or-false_elim (ltb (length words) run_words) _ h).0

-- the run that the words hold
pub open_held : (words : List ℕ) (m : Mask) → number m ≡ of_words (get_or words 9 0) (get_or words 10 0) → (c : Option Fault)
    → closed_of c ≡ closed_in (get_or words 0 0)
    → run_words ≤ length words
    → run_of (record {
      shared = record { 0 = m };
      places =
          get_or words 1 0 ∷ get_or words 2 0 ∷ get_or words 3 0 ∷ get_or words 4 0
          ∷ get_or words 5 0 ∷ get_or words 6 0 ∷ get_or words 7 0 ∷ get_or words 8 0 ∷ [];
      closed = c;
    })
    ≡ open_in words
unfolding numbers_from
open_held words m e c is room =
    let places = entries words 1 8 (omega arith) in
    λ i. record { shared = e i; places = λ j. get_or (places i) j 0; closed = is i }

-- the words of a run
pub words-held : (d : Numbered) (w : List ℕ) → w ≡ words_of (number d.run.shared.0) → (c : ℕ)
    → c ≡ closed_word (closed_of d.run.closed)
    → c ∷ get_or d.run.places 0 0 ∷ get_or d.run.places 1 0 ∷ get_or d.run.places 2 0 ∷ get_or
    d.run.places 3 0 ∷ get_or d.run.places 4 0 ∷ get_or d.run.places 5 0 ∷ get_or d.run.places 6 0 ∷ get_or
    d.run.places 7 0 ∷ get_or w 0 0 ∷ get_or w 1 0 ∷ d.change ∷ []
    ≡ words_of_run (numbered_of d)
unfolding numbers_from
words-held d w e c is = rw (is, e)
