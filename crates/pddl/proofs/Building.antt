-- The task's rows, one after the other.
use mathlib.Core.Path.{◌≡◌, refl, sym, ap, ◌∙◌}
use mathlib.Core.Bool.{true}
use mathlib.Core.List.{List, [], ◌∷◌, ◌++◌, flatten}
use Prim.Native.Nat.{ℕ, suc, ◌+◌, ◌*◌, ◌≤◌}
use native.Mathlib.Omega.{arith}
use lib.ListN.{length, take, length-append}
use lib.Seq.{length-take-le, paste, length-paste, take-paste}
use Rattle.semantics.specs.Words.{states_in}
use Rattle.semantics.specs.Task.{row_width, check}
use Rattle.semantics.specs.Text.{text_words}
use Rattle.semantics.specs.Pddl as Pddl
use Rattle.semantics.specs.Pddl.{predicates_of, actions_of, named, goal_rows, own_rows, action_rows}
use Rattle.semantics.specs.Pddl.{waits_known}
use Rattle.mask.specs.Number.{number}
use Rattle.pddl_waits.proofs.Waits.{known_more}
use Rattle.std.specs.Prelude.{Option, Some, Result}
use Rattle.refusal.specs.declared.Refusal.{Refusal}
use Rattle.refusal.specs.Number.{code}
use Rattle.pddl_waits.specs.declared.Greatest.{Greatest}
use Rattle.pddl_waits.specs.Inner.Waits.{Read}
use Rattle.pddl_name.specs.declared.Span.{Span}
use Rattle.pddl_name.specs.Inner.Table.{names_in}
use Rattle.pddl_section.specs.Inner.Section.{members_from}
use Rattle.pddl_named.specs.declared.Common.{Common}
use Rattle.pddl_theory.specs.Inner.Limits.{most_facts}
use Rattle.pddl_theory.specs.Inner.Appended.{Appended}
use Rattle.pddl_words.specs.Inner.Built.{head_words}
use Rattle.pddl_theory.proofs.Appending.{both}
use Rattle.pddl_named.proofs.Passing.{own-length}
use Rattle.pddl.specs.Inner.Law.{most_words, NamedIn, rows_of, BuiltOf}

-- ---- how many words

goals-length : (P : List (List ℕ)) (i : ℕ) (ms : List Pddl.Member) → length (goal_rows P i ms) ≡ row_width * length ms
unfolding goal_rows
goals-length P i [] = refl
goals-length P i (m ∷ ms) = omega (arith, goals-length P (suc i) ms)

actions-length : (P : List (List ℕ)) (waits : List ℕ) (i a : ℕ) (ms : List Pddl.Member)
    → length (action_rows P waits i a ms) ≡ row_width * length (actions_of ms)
unfolding action_rows flatten
actions-length P waits i a [] = refl
actions-length P waits i a (m ∷ ms) =
    let later : ℕ = a + length m.its.actions in
    let own : List ℕ = own_rows P waits i a m.its.actions in
    let rest : List ℕ = action_rows P waits (suc i) later ms in
    let sum : length (own ++ rest) ≡ length own + length rest = length-append own rest in
    let acts : length (m.its.actions ++ actions_of ms) ≡ length m.its.actions + length (actions_of ms) =
    length-append m.its.actions (actions_of ms) in
    omega (arith, own-length P waits i a m.its.actions, actions-length P waits (suc i) later ms)

-- ---- the rows of a law

-- words that are copied behind others
pasted : (t words : List ℕ) (at n : ℕ) → at + n ≤ length t → n ≤ length words
    → Appended t at (take n words) (paste t at words n)
pasted t words at n h l =
    record {
      kept = length-paste t at words n h l;
      front = ap (λ (k : ℕ). take (at + k) (paste t at words n)) (length-take-le n words l)
          ∙ take-paste t at words n (omega arith) l;
    }

module _ (c : Common) (members actions : ℕ) (few-members : members ≤ 8) (few-actions : actions ≤ 256)
    (t₀ t₁ t₂ t₃ goals acts : List ℕ) (long : most_words ≤ length t₀) (goals-long : row_width * 8 ≤ length goals)
    (acts-long : row_width * 256 ≤ length acts)
    (head : Appended t₀ 0 (head_words c.facts members actions (number c.mask)) t₁)
    (first : ℕ) (is-first : first ≡ row_width * members) (goals-copied : t₂ ≡ paste t₁ row_width goals first)
    (from words : ℕ) (is-from : from ≡ row_width + first) (is-words : words ≡ row_width * actions)
    (acts-copied : t₃ ≡ paste t₂ from acts words) where
  abbrev front : List ℕ
  front = head_words c.facts members actions (number c.mask)

  abbrev its : List ℕ
  its = take (row_width * members) goals

  its-length : length its ≡ row_width * members
  its-length = length-take-le (row_width * members) goals (omega arith)

  goals_in : Appended t₁ row_width its t₂
  goals_in =
      rw (goals-copied, is-first)
      (pasted t₁ goals row_width (row_width * members) (omega (arith, head.kept)) (omega arith))

  head-goals : Appended t₀ 0 (front ++ its) t₂
  head-goals = both head (rw nine goals_in)
    where
      nine : row_width ≡ 0 + length front
      nine = refl

  behind : from ≡ 0 + length (front ++ its)
  behind = omega (arith, length-append front its, its-length)

  acts_in : Appended t₂ from (take (row_width * actions) acts) t₃
  acts_in =
      rw (acts-copied, is-words)
      (pasted t₂ acts from (row_width * actions) (omega (arith, head-goals.kept)) (omega arith))

  whole : Appended t₀ 0 (rows_of c members actions goals acts) t₃
  whole = both head-goals (rw (← behind) acts_in)

  pub built_of : (r : Result (Unit {0}) Refusal) (end : ℕ) → end ≡ from + words → code r ≡ check (take end t₃)
      → BuiltOf c members actions goals acts t₃ r
  built_of r end is-end e =
      let acts-length : length (take (row_width * actions) acts) ≡ row_width * actions =
      length-take-le (row_width * actions) acts (omega arith) in
      let size : 0 + length (rows_of c members actions goals acts) ≡ row_width * (1 + members + actions) =
      omega (
        arith,
        length-append (front ++ its) (take (row_width * actions) acts),
        behind,
        is-from,
        is-first,
        acts-length,
      ) in
      let ends : end ≡ row_width * (1 + members + actions) = omega (arith, is-from, is-words) in
      let stands : take (row_width * (1 + members + actions)) t₃ ≡ rows_of c members actions goals acts =
      ap (λ (k : ℕ). take k t₃) (sym size) ∙ whole.front in
      record {
        room = omega (arith, whole.kept, long);
        words = stands;
        checked = e ∙ ap (λ (k : ℕ). check (take k t₃)) ends ∙ ap check stands;
      }

-- ---- rows of goals and of actions

module _ {text : List ℕ} {spans : List Span} {masks before goals₀ acts goals : List ℕ} {count : ℕ}
    (n : NamedIn text spans masks before goals₀ acts goals (Some count)) where
  abbrev ms : List Pddl.Member
  ms = members_from text 0

  -- they stand at the front of their tables
  pub goals-rows : length ms ≤ 8 → take (row_width * length ms) goals ≡ goal_rows (names_in text spans) 0 ms
  goals-rows few =
      let size : 0 + length (goal_rows (names_in text spans) 0 ms) ≡ row_width * length ms =
      omega (arith, goals-length (names_in text spans) 0 ms) in
      ap (λ (k : ℕ). take k goals) (sym size) ∙ (n.goal-rows count refl few).front

  module _ (few : count ≤ 256) (few-facts : length (predicates_of ms) ≤ most_facts) {waits : List ℕ}
      {w : Option Greatest} (x : Read waits masks w) (size : states_in (length masks) ≡ 256)
      (known : waits_known (length (actions_of ms)) (length (predicates_of ms)) (text_words waits) ≡ true) where
    pub acts-rows : take (row_width * count) acts ≡ action_rows (names_in text spans) (text_words waits) 0 0 ms
    acts-rows =
        let its : List ℕ = action_rows (names_in text spans) (text_words waits) 0 0 ms in
        let length-of : 0 + length its ≡ row_width * count =
        omega (arith, actions-length (names_in text spans) (text_words waits) 0 0 ms, n.number count refl) in
        let below : length (actions_of ms) ≤ 256 = omega (arith, n.number count refl, few) in
        let all : waits_known 256 most_facts (text_words waits) ≡ true =
        known_more (length (actions_of ms)) (length (predicates_of ms)) 256 most_facts
        (text_words waits) below few-facts
        known in
        ap (λ (k : ℕ). take k acts) (sym length-of)
        ∙ ((n.rows count refl few).each (text_words waits) (x.masks (rw size all))).front
