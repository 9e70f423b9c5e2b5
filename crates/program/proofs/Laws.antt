-- Laws of the program: its slices' lengths, what a conflict's slices hold, and the words that the reader gives. Assumes
-- nothing.
use mathlib.Core.Path.{◌≡◌, refl, sym, ap, subst, ◌∙◌}
use mathlib.Core.Bool.{Bool, true, false, not, ◌&&◌}
use mathlib.Core.List.{List, [], ◌∷◌, ◌++◌, map, flatten}
use Prim.Native.Nat.{ℕ, zero, suc, ◌+◌, ◌-◌, ◌*◌, ◌/◌, ◌≤◌, ◌<◌}
use native.Mathlib.Nat.{zero-add, mul-div-le, div-lt_iff_lt-mul}
use native.Mathlib.Numerals.{add-one}
use native.Mathlib.Omega.{arith}
use lib.ListN.{length, get_or, take, drop, replicate, length-append, length-replicate, length-map, get_or-append}
use lib.Seq.{take_at}
use lib.Dec.{eqb, ltb, leb}
use borrow.Author.Tests.{eqb-true, le-ltb}
use Rattle.semantics.specs.Base.{up_to, all_of, ◌if◌, ◌else◌, Answer, refused, gives, ◌leaves◌otherwise◌, unless}
use Rattle.semantics.specs.Base.{padded, zeroed}
use Rattle.semantics.specs.Task.{row_width, check, members}
use Rattle.semantics.specs.Text.{most_records, records, fields, number, is_field, is_record, is_text, text_words, Reading}
use Rattle.semantics.specs.Text.{refused_with, read_records, read_text}
use Rattle.semantics.specs.Run.{beginning, ends_from, ends_fit, plans_of, plans_refusal, Replay, replay, joint_replay}
use Rattle.semantics.specs.System.{system, waits}
use Rattle.semantics.specs.Verdict.{Verdict, unsolvable, not_robust, robust, Failing, Conflict, Slices, room, too_short}
use Rattle.semantics.specs.Verdict.{listed_for, Judged, judged_by, verdict_on, VerdictIs, VerdictMeans, local_rows}
use Rattle.semantics.specs.Verdict.{configuration_rows, verdict_in, verdict, lent_of}
use Rattle.semantics.specs.Demands.{Carries, Replays}
use Rattle.theory.proofs.Laid.{Laid}
use Rattle.theory.proofs.Lists.{and_elim}
use Rattle.theory.proofs.Refusals.{else_both, if_not-true, refused-gives, gives_inj, unless-gives}
use Rattle.theory.proofs.Accepted.{accepted, accepted-lawful}
use Rattle.theory.proofs.Verdict.{Found, found}
use Rattle.theory.proofs.Demand3.{given-answer, demand3-answer}
use Rattle.text.specs.Post.{most_words, reading}
use Rattle.refusal.specs.declared.Refusal.{Refusal}
use Rattle.std.specs.Prelude.{Result, Ok, Err}
use Rattle.refusal.specs.Number as refusals
use Rattle.run_plans.proofs.Laws.{part}
use Rattle.report.specs.File.{word, header, line, file}
use Rattle.report.specs.Inner.Put.{most_file, most_facts, Holds}
use Rattle.program.specs.Program.{local_words, configuration_words, K, C, lent_for, reported, printed_for}
use Rattle.program.specs.Program.{printed, AtFront}
use Rattle.program.specs.Inner.Most.{most_bytes}

-- ---- lengths

-- the copies that each table holds
abbrev pub local_copies : ℕ
local_copies = 2048

abbrev pub configuration_copies : ℕ
configuration_copies = 4096

-- the most configurations, those of a task of one member
abbrev pub most_configurations : ℕ
most_configurations = 2048

-- the rows of all members fit the local table
pub rows-most : (n : ℕ) → n * (local_copies / n) ≤ local_copies
rows-most n = mul-div-le local_copies n

pub configurations-most : (n : ℕ) → 1 ≤ n → configuration_copies / (n + 1) ≤ most_configurations
configurations-most n h =
    let l : configuration_copies / (n + 1) < most_configurations + 1 =
    (div-lt_iff_lt-mul {k = n + 1} {x = configuration_copies} {y = most_configurations + 1} (omega arith)).1
    (omega arith) in
    omega arith

-- the front of a slice of zeros
take-zeros : (n m : ℕ) → n ≤ m → take n (replicate {A = ℕ} m 0) ≡ replicate n 0
take-zeros zero m h = refl
take-zeros (suc n) zero h = absurd (omega arith)
take-zeros (suc n) (suc m) h = ap (λ (l : List ℕ). 0 ∷ l) (take-zeros n m (omega arith))

pub front_length : (n m : ℕ) → n ≤ m → n ≡ length (take n (replicate {A = ℕ} m 0))
front_length n m h = sym (ap length (take-zeros n m h) ∙ length-replicate {A = ℕ} n 0)

-- the fronts of the program's slices are those that the verdict is lent
pub lends : (t : List ℕ) → check t ≡ 0 → (n : ℕ) → n ≡ members t
    → lent_of (replicate local_words 0) (take (n * (local_copies / n)) (replicate local_copies 0))
    (replicate configuration_words 0)
    (take (2 * (configuration_copies / (n + 1))) (replicate (2 * most_configurations) 0))
    (take (configuration_copies / (n + 1) + n * (local_copies / n)) (replicate (most_configurations + local_copies) 0))
    (take n (replicate 8 0))
    (take (configuration_copies / (n + 1)) (replicate most_configurations 0))
    ≡ lent_for t
unfolding lent_for
lends t ok n e =
    let a = accepted t ok in
    let r = rows-most n in
    let c = configurations-most n (omega (arith, a.some-members)) in
    rw (
      take-zeros (n * (local_copies / n)) local_copies r,
      take-zeros (2 * (configuration_copies / (n + 1))) (2 * most_configurations) (omega arith),
      take-zeros (configuration_copies / (n + 1) + n * (local_copies / n)) (most_configurations + local_copies)
          (omega arith),
      take-zeros n 8 (omega (arith, a.few-members)),
      take-zeros (configuration_copies / (n + 1)) most_configurations c,
      add-one n,
      e,
    )

-- the slices are never too short: an accepted task is not refused with 14
pub long-enough : (t : List ℕ) → too_short t (room (lent_for t)) ≡ false
unfolding lent_for
long-enough t =
    rw (
      length-replicate {A = ℕ} (members t * K t) 0,
      length-replicate {A = ℕ} (2 * C t) 0,
      length-replicate {A = ℕ} (C t + members t * K t) 0,
      length-replicate {A = ℕ} (members t) 0,
      length-replicate {A = ℕ} (C t) 0,
      same (members t * K t),
      same (2 * C t),
      same (C t + members t * K t),
      same (members t),
      same (C t),
    )
  where
    same : (n : ℕ) → ltb n n ≡ false
    same n = le-ltb n n (omega arith)

-- so the verdict refuses an accepted task with 9, or not at all
pub refused-nine : (t : List ℕ) → check t ≡ 0 → (after : Slices) (answer : Answer (Verdict Failing)) (k : ℕ)
    → VerdictMeans t (lent_for t) after answer → answer ≡ refused k → k ≡ 9
unfolding verdict
refused-nine t ok after answer k m e = at (verdict t (room (lent_for t))) refl m
  where
    found_in : Answer (Verdict Conflict)
    found_in =
        verdict_in (system t) (waits t) (local_rows t (room (lent_for t)).local_table)
        (configuration_rows t (room (lent_for t)).configuration_table)

    searched : verdict t (room (lent_for t)) ≡ found_in
    searched =
        let short = too_short t (room (lent_for t)) in
        ap (λ (r : ℕ). unless (r else (14 if short)) found_in) ok
        ∙ ap (λ (b : Bool). unless (14 if b) found_in) (long-enough t)

    nine : (j : ℕ) (x : Answer (Verdict Conflict))
        → Found (system t) (waits t) (accepted-lawful t ok) (local_rows t (room (lent_for t)).local_table)
        (configuration_rows t (room (lent_for t)).configuration_table) x
        → x ≡ refused j → j ≡ 9
    nine j x (Found.copies-full h l) g = cc
    nine j x (Found.dead fits h dead lower) g = absurd (refused-gives (sym g))
    nine j x (Found.configurations-full fits live l) g = cc
    nine j x (Found.faults-shown s f) g = absurd (refused-gives (sym g))
    nine j x (Found.faultless s none) g = absurd (refused-gives (sym g))

    refused_inj : {i j : ℕ} → ◌≡◌ {A = Answer (Verdict Failing)} (refused i) (refused j) → i ≡ j
    refused_inj q = cc

    at : (f : Answer (Verdict Conflict)) → verdict t (room (lent_for t)) ≡ f → VerdictIs t (lent_for t) after answer f
        → k ≡ 9
    at (refused j) g m =
        let same : j ≡ k = refused_inj (sym (ap (λ (x : Judged). x.answer) m.same) ∙ e) in
        sym same ∙ nine j found_in
        (found (system t) (waits t) (accepted-lawful t ok) (local_rows t (room (lent_for t)).local_table)
        (configuration_rows t (room (lent_for t)).configuration_table)) (sym searched ∙ g)
    at (gives v) g m = absurd (refused-gives (sym e ∙ given-answer m))

-- ---- what is put lies in the slice

at_front : {bytes before after : List ℕ} {r : ℕ} → Laid bytes before 0 after r → AtFront bytes before after r
at_front {bytes} {before} l =
    let counted = l.ends ∙ zero-add (length bytes) in
    record {
      count = counted;
      inside = l.inside;
      held = l.held ∙ ap (λ (k : ℕ). bytes ++ drop k before) counted;
    }

pub front-within : {bytes before after : List ℕ} {r : ℕ} → AtFront bytes before after r → r ≤ length after
front-within {bytes} {before} f =
    omega (
      arith,
      f.count,
      ap length f.held,
      length-append bytes (drop (length bytes) before),
    )

-- ---- the slices of a conflict

padded-at : (m : ℕ) (xs : List ℕ) (j : ℕ) → j < length xs → get_or (padded m xs) j 0 ≡ get_or xs j 0
padded-at m xs j h = get_or-append xs (replicate (m - length xs) 0) 0 j h

padded-beginning : (m : ℕ) (xs : List ℕ) (j : ℕ) → j ≤ length xs → beginning (padded m xs) j ≡ beginning xs j
padded-beginning m xs zero h = refl
padded-beginning m xs (suc j) h = padded-at m xs j h

padded-long : (m : ℕ) (xs : List ℕ) → length xs ≤ length (padded m xs)
padded-long m xs = omega (arith, length-append xs (replicate (m - length xs) 0))

-- what replays has ends that fit
replays-fit : (t plans ends picks : List ℕ) {r : Replay ℕ} → joint_replay t plans ends picks ≡ gives r
    → ends_fit (members t) plans ends ≡ true
unfolding joint_replay plans_refusal
replays-fit t plans ends picks e =
    let u = unless-gives (plans_refusal t plans ends)
    (replay (system t) (waits t) (plans_of (members t) plans ends) picks) e in
    if_not-true 10 _ (else_both (11 if not (ends_fit (members t) plans ends)) _ (else_both (check t) _ u.0).1).0

ends-many : (n : ℕ) (plans ends : List ℕ) → ends_fit n plans ends ≡ true → length ends ≡ n
unfolding ends_fit
ends-many n plans ends fit =
    eqb-true (length ends) n
    (and_elim (eqb (length ends) n) _
    (and_elim (eqb (length ends) n && all_of (λ j. leb (beginning ends j) (get_or ends j 0)) (up_to n)) _ fit).0).0

module _ (t : List ℕ) (before after : Slices) (answer : Answer (Verdict Failing)) where
  conflict-holds : (told : Failing) (listed : ℕ) (c : Conflict) → Carries told c before after → Replays t listed c
      → Holds (gives (not_robust told)) (members t) after.plans after.ends after.picks
  conflict-holds told listed c h r =
      let n = members t in
      let plans = flatten c.plans in
      let ends = ends_from 0 c.plans in
      let fit : ends_fit n plans ends ≡ true = replays-fit t plans ends c.picks r.replays in
      let many : length ends ≡ n = ends-many n plans ends fit in
      let part_of = part n plans ends fit in (
        record {
          enough = rw h.ends (omega (arith, padded-long (length before.ends) ends, many));
          ordered = λ j l.
              let p = part_of j l in
              rw (
                h.ends,
                padded-beginning (length before.ends) ends j (omega (arith, p.many)),
                padded-at (length before.ends) ends j (omega (arith, p.many)),
              )
              p.begins;
          within = λ j l.
              let p = part_of j l in
              rw (h.ends, h.plans, padded-at (length before.ends) ends j (omega (arith, p.many)))
              (omega (arith, p.within, padded-long (length before.plans) plans));
        },
        rw (h.is_told, h.picks) (omega (arith, r.pick_count, padded-long (length before.picks) c.picks)),
      )

  pub holds : VerdictMeans t before after answer → Holds answer (members t) after.plans after.ends after.picks
  holds means = at answer refl
    where
      at : (a : Answer (Verdict Failing)) → answer ≡ a → Holds a (members t) after.plans after.ends after.picks
      at (refused k) e = tt
      at (gives (unsolvable i)) e = tt
      at (gives (robust c)) e = tt
      at (gives (not_robust told)) e =
          let (c, v, carries, replays) = (demand3-answer t before after answer means).not_robust told e in
          conflict-holds told (length (listed_for t before)) c carries replays

  -- the bytes that are laid are the file of the verdict
  pub reports : before ≡ lent_for t → VerdictMeans t before after answer → (n : ℕ) → n ≡ members t
      → (out out' : List ℕ) (r : ℕ)
      → Laid (file answer n after.plans after.ends after.picks) out 0 out' r → AtFront (reported t) out out' r
  unfolding reported
  reports lent means n e out out' r l =
      let fileOf : Judged → List ℕ =
      λ j. file j.answer (members t) j.lent.plans j.lent.ends j.lent.picks in
      let is : file answer n after.plans after.ends after.picks ≡ fileOf (verdict_on t (lent_for t) []) =
      ap (λ (k : ℕ). file answer k after.plans after.ends after.picks) e
      ∙ ap fileOf means.same
      ∙ any-trail (verdict t (room before)) after.trail
      ∙ ap (λ (x : Slices). fileOf (verdict_on t x [])) lent in
      at_front (subst (λ (bytes : List ℕ). Laid bytes out 0 out' r) is l)
    where
      -- no slice but the trail depends on the trail
      any-trail : (x : Answer (Verdict Conflict)) (trail : List ℕ)
          → file (judged_by t before trail x).answer (members t) (judged_by t before trail x).lent.plans
          (judged_by t before trail x).lent.ends (judged_by t before trail x).lent.picks
          ≡ file (judged_by t before [] x).answer (members t) (judged_by t before [] x).lent.plans
          (judged_by t before [] x).lent.ends (judged_by t before [] x).lent.picks
      any-trail (refused k) trail = refl
      any-trail (gives v) trail = refl

  -- the file fits
  pub file-fits : check t ≡ 0 → before ≡ lent_for t → length after.plans ≡ length before.plans
      → length after.picks ≡ length before.picks
      → most_file (1 + most_facts + members t + length after.plans + length after.picks) ≤ most_bytes
  unfolding lent_for
  file-fits ok lent p q =
      let e : length before.plans ≡ C t + members t * K t =
      ap (λ (l : Slices). length l.plans) lent ∙ length-replicate {A = ℕ} (C t + members t * K t) 0 in
      let f : length before.picks ≡ C t =
      ap (λ (l : Slices). length l.picks) lent ∙ length-replicate {A = ℕ} (C t) 0 in
      let g : configuration_copies / (members t + 1) ≡ C t = rw add-one in
      omega (
        arith,
        rows-most (members t),
        configurations-most (members t) (accepted t ok).some-members,
        (accepted t ok).few-members,
      )

-- ---- the reader

-- every record of a text gives a row of words
words-length : (rs : List (List ℕ)) → all_of (is_record row_width) rs ≡ true
    → length (flatten (map (λ r. map number (fields r)) rs)) ≡ row_width * length rs
unfolding all_of is_record flatten
words-length [] h = refl
words-length (r ∷ rs) h =
    let (a, b) = and_elim (is_record row_width r) (all_of (is_record row_width) rs) h in
    omega (
      arith,
      length-append (map number (fields r)) (flatten (map (λ r. map number (fields r)) rs)),
      length-map (fields r) number,
      eqb-true (length (fields r)) row_width
          (and_elim (eqb (length (fields r)) row_width) (all_of is_field (fields r)) a).0,
      words-length rs b,
    )

-- the words of a text that is read
pub record Words (text words out : List ℕ) (n : ℕ) : Type 0 where
  pub answer : (read_text text words).answer ≡ gives n
  pub task : check (text_words text) ≡ 0
  pub room : row_width * n ≤ length out
  pub words-read : take (row_width * n) out ≡ text_words text

module _ (text words out : List ℕ) (long : most_words ≤ length words) (r : Result ℕ Refusal)
    (e : reading r out ≡ read_text text words) where
  pub words-of : (n : ℕ) → r ≡ Ok n → Words text words out n
  unfolding read_text read_records text_words is_text
  words-of n f =
      let g : reading (Ok n) out ≡ read_text text words =
      subst (λ (q : Result ℕ Refusal). reading q out ≡ read_text text words) f e in
      let bad = 15 if not (is_text row_width most_records text) in
      let (x, h) = unrefused words (14 if ltb (length words) most_words) _ g in
      let (y, z) = unrefused (zeroed words) (bad else check (text_words text)) _ h in
      let (a, k) = else_both bad (check (text_words text)) y in
      let count : n ≡ length (records text) = gives_inj (ap (λ (q : Reading). q.answer) z) in
      let held : out ≡ padded (length words) (text_words text) = ap (λ (q : Reading). q.words) z in
      let good = and_elim (leb (length (records text)) most_records) _ (if_not-true 14 _ a) in
      let size : length (text_words text) ≡ row_width * length (records text) = words-length (records text) good.1 in
      let same : length (text_words text) ≡ row_width * n = omega arith in
      record {
        answer = sym (ap (λ (q : Reading). q.answer) g);
        task = k;
        room = rw held
            (omega (arith, length-append (text_words text) (replicate (length words - length (text_words text)) 0)));
        words-read =
            rw held (take_at (text_words text) (replicate (length words - length (text_words text)) 0)
            (row_width * n) same);
      }
    where
      unrefused : (ws : List ℕ) (a : ℕ) (q : Reading) → reading (Ok n) out ≡ (a leaves refused_with ws otherwise q)
          → (a ≡ 0) × (reading (Ok n) out ≡ q)
      unrefused ws (suc a) q g = absurd (refused-gives (sym (ap (λ (q : Reading). q.answer) g)))
      unrefused ws zero q g = (refl, g)

module _ (text words out : List ℕ) (zeros : words ≡ replicate most_words 0) (r : Result ℕ Refusal)
    (e : reading r out ≡ read_text text words) where
  answered : (read_text text words).answer ≡ (read_text text (replicate most_words 0)).answer
  answered = ap (λ (w : List ℕ). (read_text text w).answer) zeros

  pub prints_task : (n : ℕ) → Words text words out n → {before after : List ℕ} {c : ℕ}
      → AtFront (reported (take (row_width * n) out)) before after c → AtFront (printed text) before after c
  unfolding printed
  prints_task n w {before} {after} {c} f =
      subst (λ (a : Answer ℕ). AtFront (printed_for a text) before after c) (sym w.answer ∙ answered)
      (subst (λ (t : List ℕ). AtFront (reported t) before after c) w.words-read f)

  pub prints_refusal : (k : Refusal) → r ≡ Err k → {before after : List ℕ} {c : ℕ}
      → Laid (header ++ line (word "refused") (refusals.number k)) before 0 after c → AtFront (printed text) before after c
  unfolding printed
  prints_refusal k f {before} {after} {c} l =
      let a : refused (refusals.number k) ≡ (read_text text words).answer =
      ap (λ (q : Result ℕ Refusal). (reading q out).answer) (sym f) ∙ ap (λ (q : Reading). q.answer) e in
      subst (λ (a : Answer ℕ). AtFront (printed_for a text) before after c) (a ∙ answered) (at_front l)
