-- What the verdict's search lists, and when it refuses, in terms of the model: 9 exactly, unsolvable with the lowest
-- agent that has no individual solution, and the configurations that can be reached, each once, in breadth order.
-- Assumes nothing.
use mathlib.Core.Path.{◌≡◌, refl, sym, ap, subst, ◌∙◌}
use mathlib.Core.Bool.{Bool, true, false}
use mathlib.Core.Logic.{◌⊎◌, inl, inr, ⊎_elim, ◌↔◌}
use mathlib.Core.List.{List, [], Memᴰ}
use Prim.Native.Nat.{ℕ, ◌≤◌, ◌<◌}
use native.Mathlib.Omega.{arith}
use lib.ListN.{length}
use lib.Dec.{eqb}
use Rattle.semantics.specs.Base.{Answer, refused, gives}
use Rattle.semantics.specs.Task as Task
use Rattle.semantics.specs.Task.{check, members}
use Rattle.semantics.specs.System.{result_of, Lawful, system, waits}
use Rattle.semantics.specs.Listing.{Reach, here, step}
use Rattle.semantics.specs.Solo.{copies}
use Rattle.semantics.specs.Model.{◌⊆◌}
use Rattle.semantics.specs.Verdict.{Room, local_rows, configuration_rows, too_short, unsolvable, not_robust, robust}
use Rattle.semantics.specs.Verdict.{Verdict, Conflict, first_conflict, same_row, local_copy, shared_copy, start_row}
use Rattle.semantics.specs.Verdict.{moves, configurations, verdict_in}
use Rattle.semantics.specs.Verdict.{verdict, live_for, listed_in}
use Rattle.semantics.specs.Demands.{facts_of, setting, Reachable, Completable, Solvable, Exceed, Configured}
use Rattle.semantics.specs.Demands.{at-start, by_move, ListedRows, CopiesExceed, VerdictSearch, Searches}
use Rattle.theory.proofs.Lists.{lt-or_ge, true-not-false, apart}
use Rattle.theory.proofs.Refusals.{refused-gives, gives_inj}
use Rattle.theory.proofs.Attempts.{able-sub, sub-able}
use Rattle.theory.proofs.Accepted.{accepted-lawful}
use Rattle.theory.proofs.Agrees.Solo.{leads_solution, solution_leads}
use Rattle.theory.proofs.SoloSearch.{reachable_iff, completable_iff}
use Rattle.theory.proofs.Listing.{Nodup, nodup_index, index_nodup, pigeonhole, listing_nodup, listing-breadth}
use Rattle.theory.proofs.Live.{copies_nodup, copies_reachable, reachable_copies}
use Rattle.theory.proofs.Rows.{LiveTest, moves-move, move-moves, ready-able, ready-live, able-ready, solo-step}
use Rattle.theory.proofs.Rows.{good-reach}
use Rattle.theory.proofs.Verdict.{row-refl, Fits, live_for-test, listed-reach, reach-listed, Searched, Found}
use Rattle.theory.proofs.Verdict.{found}

module _ (t : List ℕ) (room : Room) (ok : check t ≡ 0) (long : too_short t room ≡ false) where
  abbrev K : ℕ
  K = local_rows t room.local_table

  abbrev C : ℕ
  C = configuration_rows t room.configuration_table

  abbrev live : ℕ → ℕ → Bool
  live = live_for (system t) K

  abbrev rows : List (List ℕ)
  rows = listed_in t room

  lawful : Lawful (system t) (waits t)
  lawful = accepted-lawful t ok

  -- ---- local copies

  copies_exceed : (i : ℕ) → i < members t → K < length (copies (system t) i K) → CopiesExceed t K
  copies_exceed i h l = (
    i,
    h,
    record {
      some = copies (system t) i K;
      distinct = nodup_index 0 (copies_nodup (system t) (waits t) lawful i K);
      each = λ s m. (reachable_iff t i s).0 (copies_reachable (system t) (waits t) lawful i K s m);
      more = l;
    },
  )

  abbrev AllFit : Type 0
  AllFit = Fits (system t) (waits t) lawful K

  fit-not : AllFit → ¬ CopiesExceed t K
  fit-not fits (i, h, x) =
      let p = pigeonhole (copies (system t) i K) (index_nodup 0 x.some x.distinct)
      (λ s m. reachable_copies (system t) (waits t) lawful i K (fits i h) s ((reachable_iff t i s).1 (x.each s m))) in
      omega (arith, fits i h, x.more)

  module _ (fits : AllFit) where
    test : LiveTest (system t) live
    test = live_for-test (system t) (waits t) lawful K fits

    live-right : (i s : ℕ) → i < members t → Reachable t i s → (live i s ≡ true) ↔ Completable t i s
    live-right i s h r = (
      λ e. (completable_iff t i s).0 (test.sound i s h e),
      λ c. test.complete i s h ((reachable_iff t i s).1 r) ((completable_iff t i s).1 c),
    )

    live-solvable : (i : ℕ) → i < members t → live i (Task.initial t) ≡ true → Solvable t i
    live-solvable i h e = let l = test.sound i (Task.initial t) h e in (l.0, leads_solution t i l.0 l.1)

    solvable-live : (i : ℕ) → i < members t → Solvable t i → live i (Task.initial t) ≡ true
    solvable-live i h (π, s) = test.complete i (Task.initial t) h (here refl) (π, solution_leads t i π s)

    -- ---- configurations

    configured_reach : {c : List ℕ} → Configured t c → Reach (moves (system t) live) (start_row (system t)) c
    configured_reach at-start = here refl
    configured_reach (by_move {c = c} {i = i} {a = a} r (l, o) local shared goes) =
        let reach = configured_reach r in
        let h = lawful.owned a l in
        let j = Task.owner t a in
        let s = local_copy (system t) c j in
        let local' = subst (λ (k : ℕ). (setting t).pre a ⊆ facts_of (local_copy (system t) c k)) (sym o) local in
        let goes' = subst (λ (k : ℕ). Completable t k (result_of (system t) a (local_copy (system t) c k))) (sym o) goes in
        let able = sub-able t a s local' in
        let good = (good-reach (system t) live lawful.owned reach).locals j h in
        let lives =
        test.complete j (result_of (system t) a s) h (step good (solo-step (system t) live j a s (l, refl) able))
        ((completable_iff t j (result_of (system t) a s)).1 goes') in
        step reach
        (move-moves (system t) live c a l (able-ready (system t) live c a able lives)
        (sub-able t a (shared_copy (system t) c) shared))

    reach_configured : {c : List ℕ} → Reach (moves (system t) live) (start_row (system t)) c → Configured t c
    reach_configured (here e) = subst (Configured t) (sym e) at-start
    reach_configured (step {x = c} r m) =
        let v = moves-move (system t) live m in
        let a = v.action in
        let j = Task.owner t a in
        let s = local_copy (system t) c j in
        subst (Configured t) (sym v.leads)
        (by_move {i = j} (reach_configured r) (v.listed, refl)
        (able-sub t a s (ready-able (system t) live c a v.is_ready))
        (able-sub t a (shared_copy (system t) c) v.is_able)
        ((completable_iff t j (result_of (system t) a s)).0
        (test.sound j (result_of (system t) a s) (lawful.owned a v.listed)
        (ready-live (system t) live c a v.is_ready))))

    rows_configured : (c : List ℕ) → Memᴰ c rows → Configured t c
    rows_configured c m = reach_configured (listed-reach (system t) (waits t) lawful K C c m)

    rows_nodup : Nodup rows
    unfolding configurations
    rows_nodup =
        listing_nodup (same_row eqb) (moves (system t) live) (start_row (system t)) (start_row (system t))
        (row-refl eqb lawful.same_refl) C

    rows_exceed : C < length rows → Exceed [] (Configured t) C
    rows_exceed l = record { some = rows; distinct = nodup_index [] rows_nodup; each = rows_configured; more = l }

    module _ (most : length rows ≤ C) where
      configured_rows : (c : List ℕ) → Configured t c → Memᴰ c rows
      configured_rows c r = reach-listed (system t) (waits t) lawful K C most c (configured_reach r)

      room-not : ¬ Exceed [] (Configured t) C
      room-not x =
          let p = pigeonhole rows (index_nodup [] x.some x.distinct) (λ c m. configured_rows c (x.each c m)) in
          omega (arith, x.more)

      rows-listed : ListedRows t live rows
      unfolding configurations
      rows-listed =
          record {
            listed = record {
              distinct = nodup_index [] rows_nodup;
              just =
                  λ c. (rows_configured c, configured_rows c);
            };
            breadth =
                listing-breadth (same_row eqb) (moves (system t) live) (start_row (system t))
                (start_row (system t)) C most;
            live_right = live-right;
          }

  -- ---- the findings

  verdict-is : verdict t room ≡ verdict_in (system t) (waits t) K C
  unfolding verdict
  verdict-is = rw (ok, long)

  abbrev AllSolvable : Type 0
  AllSolvable = (j : ℕ) → j < members t → Solvable t j

  -- a finding on the listed configurations
  judged : (v : Verdict Conflict) → verdict t room ≡ gives v → Searched (system t) (waits t) lawful K C
      → ((i : ℕ) → v ≡ unsolvable i → ⊥) → ((n : ℕ) → v ≡ robust n → n ≡ length rows) → VerdictSearch t room
  judged v e s not-unsolvable count =
      let solvable : AllSolvable = λ j h. live-solvable s.fits j h (s.solvable j h) in
      record {
        full = (
          λ q. absurd (refused-gives (sym q ∙ e)),
          λ x. absurd
              (⊎_elim (fit-not s.fits)
              (λ (y : AllSolvable × Exceed [] (Configured t) C). room-not s.fits s.room y.1) x),
        );
        no_other = λ k q. absurd (refused-gives (sym q ∙ e));
        unsolvable =
            λ i. (λ q. absurd (not-unsolvable i (gives_inj (sym e ∙ q))), λ x. absurd (x.2 (solvable i x.1)));
        listed = λ w q all_of. rows-listed s.fits s.room;
        counted = λ n q. count n (gives_inj (sym e ∙ q));
      }

  -- a refusal with 9
  full_search : verdict t room ≡ refused 9
      → (CopiesExceed t K ⊎ (AllSolvable × Exceed [] (Configured t) C))
      → ((i : ℕ) → ¬ CopiesExceed t K → i < members t → Solvable t i)
      → VerdictSearch t room
  full_search e x solvable =
      record {
        full = (λ q. x, λ y. e);
        no_other = λ k q. let r : k ≡ 9 = cc in r;
        unsolvable = λ i. (λ q. absurd (refused-gives (sym e ∙ q)), λ y. absurd (y.2 (solvable i y.0 y.1)));
        listed = λ v q all_of. absurd (refused-gives (sym e ∙ q));
        counted = λ n q. absurd (refused-gives (sym e ∙ q));
      }

  -- unsolvable
  dead_search : (i : ℕ) → verdict t room ≡ gives (unsolvable i) → AllFit → i < members t
      → live i (Task.initial t) ≡ false
      → ((j : ℕ) → j < i → live j (Task.initial t) ≡ true) → VerdictSearch t room
  dead_search i e fits h dead lower =
      let none : ¬ Solvable t i = λ p. true-not-false (solvable-live fits i h p) dead in
      let below : (j : ℕ) → j < i → Solvable t j = λ j l. live-solvable fits j (omega arith) (lower j l) in
      record {
        full = (
          λ q. absurd (refused-gives (sym q ∙ e)),
          λ x. absurd (⊎_elim (fit-not fits) (λ (y : AllSolvable × Exceed [] (Configured t) C). none (y.0 i h)) x),
        );
        no_other = λ k q. absurd (refused-gives (sym q ∙ e));
        unsolvable = λ j. (
          λ q.
              let same : i ≡ j = cc in
              subst (λ (k : ℕ). (¬ CopiesExceed t K) × (k < members t) × (¬ Solvable t k)
              × ((m : ℕ) → m < k → Solvable t m)) same
              (fit-not fits, h, none, below),
          λ x.
              let ge : i ≤ j = ⊎_elim (λ (l : j < i). absurd (x.2 (below j l))) (λ l. l) (lt-or_ge j i) in
              let le : j ≤ i = ⊎_elim (λ (l : i < j). absurd (none (x.3 i l))) (λ l. l) (lt-or_ge i j) in
              let same : i ≡ j = omega arith in
              e ∙ ap (λ (k : ℕ). gives (unsolvable k)) same,
        );
        listed = λ v q all_of. absurd (none (all_of i h));
        counted = λ n q. absurd (apart (cc));
      }

  searches : (x : Answer (Verdict Conflict)) → verdict t room ≡ x → Found (system t) (waits t) lawful K C x
      → VerdictSearch t room
  searches x e (Found.copies-full {i = i} h l) =
      let exceed = copies_exceed i h l in
      full_search e (inl exceed) (λ j n m. absurd (n exceed))
  searches x e (Found.dead {i = i} fits h dead lower) = dead_search i e fits h dead lower
  searches x e (Found.configurations-full fits solvable l) =
      let each : AllSolvable = λ j h. live-solvable fits j h (solvable j h) in
      full_search e (inr (each, rows_exceed fits l)) (λ j n m. each j m)
  searches x e (Found.faults-shown s f) =
      judged (not_robust (first_conflict (system t) (waits t) live K rows)) e s (λ i q. apart (cc))
      (λ n q. absurd (apart (cc)))
  searches x e (Found.faultless s none) = judged (robust (length rows)) e s (λ i q. apart (cc)) (λ n q. cc)

pub verdict-searches : Searches
verdict-searches t room ok long =
    searches t room ok long
    (verdict_in (system t) (waits t) (local_rows t room.local_table)
    (configuration_rows t room.configuration_table))
    (verdict-is t room ok long)
    (found (system t) (waits t) (lawful t room ok long) (local_rows t room.local_table)
    (configuration_rows t room.configuration_table))
