-- Document 02, F-1: what the writer writes reads back to the grouped task, for every accepted task and every word slice
-- that is long enough; and slices of 1,048,576 bytes are never too short for the writer. Assumes nothing.
use mathlib.Core.Path.{◌≡◌, ap, ap₂, ◌∙◌}
use mathlib.Core.Bool.{Bool, true, not}
use mathlib.Core.List.{List}
use Prim.Native.Nat.{ℕ, ◌+◌, ◌*◌, ◌≤◌}
use native.Mathlib.Omega.{arith}
use lib.ListN.{length}
use lib.Dec.{leb, ltb}
use borrow.Author.Tests.{lt-leb, le-ltb}
use Rattle.semantics.specs.Base.{all_of, ◌if◌, ◌else◌, gives, ◌leaves◌otherwise◌, padded, zeroed}
use Rattle.semantics.specs.Task.{row_width, members, actions, check}
use Rattle.semantics.specs.Text.{records, is_record, text_words, Reading, refused_with}
use Rattle.semantics.specs.Pddl.{Member, members_of, predicates_of, actions_of, named, in_limits, words_of, read_pddl}
use Rattle.semantics.specs.PddlDemands.{Writes}
use Rattle.semantics.specs.PddlWrite.{grouped, law_text, waits_text, write_pddl}
use Rattle.theory.proofs.Accepted.{accepted}
use Rattle.pddl_theory.proofs.Regrouped.{same-verdict}
use Rattle.pddl_theory.proofs.RegroupedWords.{grouped-length, grouped-accepted}
use Rattle.pddl_write.proofs.Bound.{law-most, waits-most}
use Rattle.pddl_trip.proofs.Grammar.{law-members}
use Rattle.pddl_trip.proofs.Waits.{wait_words, waits-sound, waits-words}
use Rattle.pddl_trip.proofs.Names.{law, law-predicates, law-count, actions-count, law-named, law-limits}
use Rattle.pddl_trip.proofs.Words.{law-words}

-- the reader's answer, by its tests: the records are sound, the members, the names, the limits, the words
abbrev answered : List ℕ → Bool → List Member → Bool → Bool → List ℕ → Reading
answered words sound ms names limits t =
    ((15 if not sound) else (16 if leb (length ms) 0) else (17 if not names) else (18 if not limits) else check t)
    leaves refused_with (zeroed words) otherwise
    (14 if ltb (length words) (length t)) leaves refused_with words otherwise
    record { answer = gives (1 + length ms + length (actions_of ms)); words = padded (length words) t }

module _ (t : List ℕ) (c : check t ≡ 0) (words : List ℕ)
    (enough : row_width * (1 + members t + actions t) ≤ length words) where
  by_members : (ms : List Member) (ws : List ℕ) → members_of (law_text t) ≡ ms → text_words (waits_text t) ≡ ws
      → read_pddl (law_text t) (waits_text t) words
      ≡ answered words (all_of (is_record 2) (records (waits_text t))) ms (named ms ws) (in_limits ms)
      (words_of (predicates_of ms) ws ms)
  unfolding read_pddl
  by_members ms ws e f =
      ap₂ (λ (x : List Member) (y : List ℕ). answered words (all_of (is_record 2) (records (waits_text t))) x (named x y)
      (in_limits x) (words_of (predicates_of x) y x)) e f

  last : answered words true (law t) true true (grouped t)
      ≡ record { answer = gives (1 + members t + actions t); words = padded (length words) (grouped t) }
  last =
      rw (
        lt-leb (length (law t)) 0 (omega (arith, law-count t, (accepted t c).some-members)),
        grouped-accepted t c,
        le-ltb (length words) (length (grouped t)) (omega (arith, enough, grouped-length t (accepted t c))),
        law-count t,
        actions-count t c,
      )

  pub reads-back : read_pddl (law_text t) (waits_text t) words
      ≡ record { answer = gives (1 + members t + actions t); words = padded (length words) (grouped t) }
  reads-back =
      by_members (law t) (wait_words t) (law-members t) (waits-words t c)
      ∙ ap₂ (λ (s n : Bool). answered words s (law t) n (in_limits (law t))
      (words_of (predicates_of (law t)) (wait_words t) (law t))) (waits-sound t c) (law-named t c)
      ∙ ap₂ (λ (l : Bool) (ws : List ℕ). answered words true (law t) true l ws) (law-limits t c)
      (ap (λ (P : List (List ℕ)). words_of P (wait_words t) (law t)) (law-predicates t c) ∙ law-words t c)
      ∙ last

-- slices of 1,048,576 bytes are never refused
pub never-short : (t text waits : List ℕ) → check t ≡ 0 → 1048576 ≤ length text → 1048576 ≤ length waits
    → write_pddl t text waits
    ≡ record {
      answer = gives (record { of_text = length (law_text t); of_waits = length (waits_text t) });
      text = padded (length text) (law_text t);
      waits = padded (length waits) (waits_text t);
    }
unfolding write_pddl
never-short t text waits c h l =
    rw (
      c,
      le-ltb (length text) (length (law_text t)) (omega (arith, law-most t c)),
      le-ltb (length waits) (length (waits_text t)) (omega (arith, waits-most t c)),
    )

-- the three together
pub written : Writes
written t c =
    record {
      back = reads-back t c;
      room = λ text waits h l. never-short t text waits c h l;
      verdict =
          same-verdict t c;
    }
