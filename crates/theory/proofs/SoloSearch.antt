-- Demand 2 for solo search: the table holds the states that the agent alone can bring about, each once, and its marks
-- say from which of them the agent alone can go on to its goal.
use mathlib.Core.Path.{◌≡◌, refl, sym, ap, subst, ◌∙◌}
use mathlib.Core.Bool.{Bool, true, false, false≢true}
use mathlib.Core.Logic.Iff
use mathlib.Core.Logic.{◌↔◌, ⊎_elim}
use mathlib.Core.List.{List, [], ◌∷◌, ◌++◌, map}
use mathlib.Core.List.{Memᴰ}
use Prim.Native.Nat.{ℕ, ◌-◌, ◌≤◌, ◌<◌}
use native.Mathlib.Omega.{arith}
use lib.ListN.{length, get_or, replicate, length-map, get_or-append}
use lib.Dec.{eqb}
use borrow.Author.Tests.{lt-ltb, le-ltb}
use Rattle.semantics.specs.Base.{◌if◌, keep, refused, gives, padded}
use Rattle.semantics.specs.Mask.{after}
use Rattle.semantics.specs.Words.{states_in, first_states, in_words, holding}
use Rattle.semantics.specs.Task as Task
use Rattle.semantics.specs.Task.{check}
use Rattle.semantics.specs.System.{Lawful, system, waits, Live}
use Rattle.semantics.specs.Listing.{mem, Reach, here, step}
use Rattle.semantics.specs.Solo.{solo_next, copies, live_of, marks_of, ones, Searched, SoloSearch, search_refusal}
use Rattle.semantics.specs.Solo.{solo_search}
use Rattle.semantics.specs.Model.{FactSet, ◌⊆◌, apply, Executes, none, then}
use Rattle.semantics.specs.Demands.{facts_of, setting, Reachable, Completable, Solvable, Distinct, Lists, Exceed}
use Rattle.semantics.specs.Demands.{Breadth, SearchedRows, SoloSearchAgrees}
use Rattle.theory.proofs.Lists.{get_d_map, lt-or_ge, mem-get_d, test_ext, filter-mem, mem-filter}
use Rattle.theory.proofs.Refusals.{else_both, refused-gives, gives_inj}
use Rattle.theory.proofs.Masks.{sub_within}
use Rattle.theory.proofs.Words.{first_states_lem}
use Rattle.theory.proofs.Accepted.{accepted-lawful}
use Rattle.theory.proofs.Agrees.Step.{facts-after, same-facts}
use Rattle.theory.proofs.Agrees.Solo.{leads_iff}
use Rattle.theory.proofs.Listing.{nodup_index, index_nodup, nodup_filter, pigeonhole, listing-breadth}
use Rattle.theory.proofs.Marks.{ones-map}
use Rattle.theory.proofs.Attempts.{result-after, within-goes, able-sub}
use Rattle.theory.proofs.Live.{Steps, goes-steps, solo_next-steps, steps-solo_next, copies_nodup, copies_reachable}
use Rattle.theory.proofs.Live.{reachable_copies, live-sound, copies-live}

-- ---- local copies against states of the model

module _ (t : List ℕ) (i : ℕ) where
  -- one more action at the end
  executes_snoc : {u v : FactSet} {π : List ℕ} (a : ℕ) → Executes (setting t) i u π v → (setting t).ActionOf i a
      → (setting t).pre a ⊆ v
      → Executes (setting t) i u (π ++ (a ∷ [])) (apply (setting t) a v)
  executes_snoc a none o p = then o p none
  executes_snoc a (then o' p' e) o p = then o' p' (executes_snoc a e o p)

  reach_reachable : {s : ℕ} → Reach (solo_next (system t) i) (system t).init s → Reachable t i s
  reach_reachable (here e) =
      ([], subst (λ (x : ℕ). Executes (setting t) i (setting t).init [] (facts_of x)) (sym e) none)
  reach_reachable {s} (step {x = x} r m) =
      let h = reach_reachable r in
      let c = solo_next-steps (system t) i x s m in
      let a = c.action in
      let led : s ≡ after x (Task.add t a) (Task.del t a) = c.led ∙ result-after t a x c.able in
      let e : apply (setting t) a (facts_of x) ≡ facts_of s = sym (facts-after t a x) ∙ ap facts_of (sym led) in (
        h.0 ++ (a ∷ []),
        subst (Executes (setting t) i (setting t).init (h.0 ++ (a ∷ []))) e
            (executes_snoc a h.1 c.own (able-sub t a x c.able)),
      )

  -- an execution from a copy that can be reached ends in one
  executes_reach : {u v : FactSet} {π : List ℕ} → Executes (setting t) i u π v → (x : ℕ) → u ≡ facts_of x
      → Reach (solo_next (system t) i) (system t).init x
      → (y : ℕ) × (v ≡ facts_of y) × Reach (solo_next (system t) i) (system t).init y
  executes_reach none x e r = (x, e, r)
  executes_reach (then {a = a} o p q) x e r =
      let y = after x (Task.add t a) (Task.del t a) in
      let holds = sub_within (Task.pre t a) x (subst (λ (w : FactSet). (setting t).pre a ⊆ w) e p) in
      let c : Steps (system t) i x y = goes-steps (system t) i x y a o (within-goes t a x holds) in
      executes_reach q y (ap (apply (setting t) a) e ∙ sym (facts-after t a x))
      (step r (steps-solo_next (system t) i x y c))

  pub reachable_iff : (s : ℕ) → Reach (solo_next (system t) i) (system t).init s ↔ Reachable t i s
  reachable_iff s = (
    reach_reachable,
    λ h.
        let q = executes_reach h.1 (system t).init refl (here refl) in
        let e = same-facts q.0 s (sym q.1) in
        subst (Reach (solo_next (system t) i) (system t).init) e q.2,
  )

  pub completable_iff : (s : ℕ) → Live (system t) i s ↔ Completable t i s
  completable_iff s = (
    λ l. let h =
        (leads_iff t i s l.0).0 l.1 in
        (l.0, h.0, h.1, h.2),
    λ c. (c.0, (leads_iff t i s c.0).1 (c.1, c.2, c.3)),
  )

-- ---- what the search answers

if_one : (b : Bool) → (1 if b ≡ 1) ↔ (b ≡ true)
if_one true = (λ h. refl, λ h. refl)
if_one false = (λ h. absurd (omega arith), λ h. absurd (false≢true h))

module _ (t : List ℕ) (i : ℕ) (table marks : List ℕ)
    (accepts : search_refusal t i (states_in (length table)) (length marks) ≡ 0) where
  -- the rows that the table takes
  abbrev room : ℕ
  room = states_in (length table)

  abbrev rows : List ℕ
  rows = copies (system t) i room

  lawful : Lawful (system t) (waits t)
  lawful = accepted-lawful t (else_both (check t) _ accepts).0

  search_full : room < length rows → (solo_search t i table marks).answer ≡ refused 9
  unfolding solo_search
  search_full l = rw (accepts, lt-ltb room (length rows) l)

  abbrev told : Searched
  told =
      record {
        count = length rows;
        live = mem eqb (system t).init (live_of (system t) i rows);
        marked = ones (marks_of (system t) i rows);
      }

  abbrev found : SoloSearch
  found =
      record {
        answer = gives told;
        table = holding (length table) rows;
        marks = padded (length marks) (marks_of (system t) i rows);
      }

  search_found : length rows ≤ room → solo_search t i table marks ≡ found
  unfolding solo_search
  search_found b = rw (accepts, le-ltb room (length rows) b)

  -- what is listed is just what can be reached
  found_reachable : length rows ≤ room → (s : ℕ) → Memᴰ s rows ↔ Reachable t i s
  found_reachable b s = (
    λ m. (reachable_iff t i s).0 (copies_reachable (system t) (waits t) lawful i room s m),
    λ r. reachable_copies (system t) (waits t) lawful i room b s ((reachable_iff t i s).1 r),
  )

  found-live : length rows ≤ room → (s : ℕ) → Memᴰ s rows
      → (mem eqb s (live_of (system t) i rows) ≡ true) ↔ Completable t i s
  found-live b s m = (
    λ h. (completable_iff t i s).0 (live-sound (system t) (waits t) lawful i rows s h),
    λ c. copies-live (system t) (waits t) lawful i room b s m ((completable_iff t i s).1 c),
  )

  found_mark : length rows ≤ room → (k : ℕ) → k < length rows
      → (get_or (padded (length marks) (marks_of (system t) i rows)) k 0 ≡ 1) ↔ Completable t i (get_or rows k 0)
  unfolding marks_of
  found_mark b k l =
      let live = live_of (system t) i rows in
      let mark : ℕ → ℕ = λ s. 1 if mem eqb s live in
      let s = get_or rows k 0 in
      let n : k < length (map mark rows) = rw length-map l in
      rw (
        get_or-append (map mark rows) (replicate (length marks - length (map mark rows)) 0) 0 k n,
        get_d_map mark rows k 0 0 l,
      )
      (Iff.trans (if_one (mem eqb s live)) (found-live b s (mem-get_d rows k 0 l)))

  rows-distinct : Distinct 0 rows
  rows-distinct = nodup_index 0 (copies_nodup (system t) (waits t) lawful i room)

  rows_reachable : (s : ℕ) → Memᴰ s rows → Reachable t i s
  rows_reachable s m = (reachable_iff t i s).0 (copies_reachable (system t) (waits t) lawful i room s m)

  abbrev start_live : Bool
  start_live = mem eqb (system t).init (live_of (system t) i rows)

  start-live : length rows ≤ room → (start_live ≡ true) ↔ Solvable t i
  start-live b =
      let first =
      found-live b (system t).init
      (reachable_copies (system t) (waits t) lawful i room b (system t).init (here refl)) in
      (λ h. let c = first.0 h in (c.0, (c.1, c.2, c.3)), λ p. first.1 (p.0, p.1.0, p.1.1, p.1.2))

  rows-listed : length rows ≤ room → Lists 0 (Reachable t i) rows
  rows-listed b = record { distinct = rows-distinct; just = found_reachable b }

  rows-breadth : length rows ≤ room → Breadth eqb (solo_next (system t) i) (Task.initial t) rows
  unfolding copies
  rows-breadth b = listing-breadth eqb (solo_next (system t) i) (Task.initial t) (Task.initial t) room b

  -- different copies that can be reached are no more than the rows, where these fit
  most : length rows ≤ room → (xs : List ℕ) → Distinct 0 xs → ((x : ℕ) → Memᴰ x xs → Reachable t i x)
      → length xs ≤ length rows
  most b xs distinct reach = pigeonhole rows (index_nodup 0 xs distinct) (λ x m. (found_reachable b x).1 (reach x m))

  exceeds : Exceed 0 (Reachable t i) room → room < length rows
  exceeds x =
      ⊎_elim (λ h. h)
      (λ b. let p = most b x.some x.distinct x.each in omega (arith, x.more))
      (lt-or_ge room (length rows))

  -- the live ones of them, and how many they are
  abbrev live_rows : List ℕ
  live_rows = keep (λ s. mem eqb s (live_of (system t) i rows)) rows

  live-listed : length rows ≤ room → Lists 0 (λ s. Reachable t i s × Completable t i s) live_rows
  live-listed b =
      let live : ℕ → Bool = λ s. mem eqb s (live_of (system t) i rows) in
      record {
        distinct = nodup_index 0 (nodup_filter live (copies_nodup (system t) (waits t) lawful i room));
        just = λ s. (
          λ m. let r = filter-mem live rows m in ((found_reachable b s).0 r.0, (found-live b s r.0).0 r.1),
          λ p. let m = (found_reachable b s).1 p.0 in mem-filter live m ((found-live b s m).1 p.1),
        );
      }

  live-many : length live_rows ≡ ones (marks_of (system t) i rows)
  unfolding marks_of
  live-many = sym (ones-map (λ s. mem eqb s (live_of (system t) i rows)) rows)

  answered : length rows ≤ room → (solo_search t i table marks).answer ≡ gives told
  answered b = ap (λ (r : SoloSearch). r.answer) (search_found b)

  full-exceeds : (solo_search t i table marks).answer ≡ refused 9 → Exceed 0 (Reachable t i) room
  full-exceeds e =
      ⊎_elim
      (λ l. record { some = rows; distinct = rows-distinct; each = rows_reachable; more = l })
      (λ b. absurd (refused-gives (sym e ∙ answered b)))
      (lt-or_ge room (length rows))

  -- an answer is given only where the rows fit
  answer-fits : (c : Searched) → (solo_search t i table marks).answer ≡ gives c → length rows ≤ room
  answer-fits c e =
      ⊎_elim (λ l. absurd (refused-gives (sym (search_full l) ∙ e))) (λ b. b) (lt-or_ge room (length rows))

  abbrev Counted : Searched → Type 0
  Counted c =
      (c.count ≤ room)
      × ((xs : List ℕ) × Lists 0 (Reachable t i) xs × (length xs ≡ c.count))
      × ((c.live ≡ true) ↔ Solvable t i)
      × ((xs : List ℕ) × Lists 0 (λ s. Reachable t i s × Completable t i s) xs × (length xs ≡ c.marked))

  answer-counted : (c : Searched) → (solo_search t i table marks).answer ≡ gives c → Counted c
  answer-counted c e =
      let b = answer-fits c e in
      subst Counted (gives_inj (sym (answered b) ∙ e))
      (b, (rows, rows-listed b, refl), start-live b, (live_rows, live-listed b, live-many))

  counted-answer : (c : Searched) → Counted c → (solo_search t i table marks).answer ≡ gives c
  counted-answer c (few, (xs, l, n), live, (ys, h, k)) =
      let back : length rows ≤ length xs =
      pigeonhole xs (copies_nodup (system t) (waits t) lawful i room)
      (λ x m. (l.just x).1 (rows_reachable x m)) in
      let b : length rows ≤ room = omega arith in
      let forth = most b xs l.distinct (λ x m. (l.just x).0 m) in
      let count : length rows ≡ c.count = omega arith in
      let same : start_live ≡ c.live =
      test_ext start_live c.live (λ h. live.1 ((start-live b).0 h)) (λ h. (start-live b).1 (live.0 h)) in
      let ours = live-listed b in
      let few-live =
      pigeonhole ys (index_nodup 0 live_rows ours.distinct) (λ s m. (h.just s).1 ((ours.just s).0 m)) in
      let all_live =
      pigeonhole live_rows (index_nodup 0 ys h.distinct) (λ s m. (ours.just s).1 ((h.just s).0 m)) in
      let marked : ones (marks_of (system t) i rows) ≡ c.marked = omega (arith, live-many) in
      answered b ∙ (λ j. gives (record { count = count j; live = same j; marked = marked j }))

  answer-rows : (c : Searched) → (solo_search t i table marks).answer ≡ gives c
      → SearchedRows t i (first_states (solo_search t i table marks).table c.count)
      (solo_search t i table marks).marks
  answer-rows c e =
      let b = answer-fits c e in
      let q = first_states_lem rows (replicate (length table - length (in_words rows)) 0) in
      let r : SearchedRows t i rows (padded (length marks) (marks_of (system t) i rows)) =
      record { listed = rows-listed b; breadth = rows-breadth b; marked = found_mark b } in
      subst (λ (x : Searched). SearchedRows t i (first_states (solo_search t i table marks).table x.count)
      (solo_search t i table marks).marks)
      (gives_inj (sym (answered b) ∙ e))
      (subst (λ (x : SoloSearch). SearchedRows t i (first_states x.table (length rows)) x.marks)
      (sym (search_found b))
      (subst (λ (xs : List ℕ). SearchedRows t i xs (padded (length marks) (marks_of (system t) i rows))) (sym q) r))

pub solo_search_agrees_lem : (t : List ℕ) (i : ℕ) (table marks : List ℕ)
    → search_refusal t i (states_in (length table)) (length marks) ≡ 0
    → SoloSearchAgrees t i table marks
solo_search_agrees_lem t i table marks accepts =
    record {
      full = (
        full-exceeds t i table marks accepts,
        λ x. search_full t i table marks accepts (exceeds t i table marks accepts x),
      );
      counted = λ c. (answer-counted t i table marks accepts c, counted-answer t i table marks accepts c);
      rows = answer-rows t i table marks accepts;
    }
