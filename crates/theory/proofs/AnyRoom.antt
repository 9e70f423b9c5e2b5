-- A task has one verdict, whatever the room: where two verdicts are given, they are equal, their conflicts too. Assumes
-- nothing.
use mathlib.Core.Path.{◌≡◌, refl, sym, ap, subst, ◌∙◌}
use mathlib.Core.Bool.{Bool, true, false, cond}
use mathlib.Core.Logic.{⊎_elim}
use mathlib.Core.List.{List, [], ◌∷◌, ◌++◌, map}
use Prim.Native.Nat.{ℕ, ◌≤◌, ◌<◌}
use native.Mathlib.Omega.{arith}
use lib.ListN.{length, get_or}
use lib.Dec.{eqb, ltb}
use borrow.Author.Tests.{eqb-true}
use Rattle.semantics.specs.Base.{up_to, any_of, Answer, gives, ◌if◌, ◌else◌}
use Rattle.semantics.specs.Task.{check}
use Rattle.semantics.specs.System.{System, Waits, result_of, Lawful, system, waits}
use Rattle.semantics.specs.Solo.{solo_next, copies, live_of}
use Rattle.semantics.specs.Completion.{completion}
use Rattle.semantics.specs.Run.{Fault}
use Rattle.semantics.specs.Verdict.{same_row, Row, local_copy, shared_copy, start_row, ready, moves, configurations}
use Rattle.semantics.specs.Verdict.{collides, own_moves, colliding, waiting, goes_on, last_pick, rest_at, Conflict}
use Rattle.semantics.specs.Verdict.{conflict_by, faulty, first_conflict, walk_to, Verdict, unsolvable, not_robust, robust}
use Rattle.semantics.specs.Verdict.{Room, local_rows, configuration_rows, too_short, all_live, live_in, live_for, listed_with}
use Rattle.semantics.specs.Verdict.{missing_at, verdict_in, verdict}
use Rattle.semantics.specs.Demands.{OneVerdict}
use Rattle.theory.proofs.Lists.{true-not-false, lt-or_ge, map_same, mem-get_d, up_to_mem, true-any, false-any}
use Rattle.theory.proofs.First.{lowest, first-at, first_index}
use Rattle.theory.proofs.Refusals.{else_both, refused-gives, gives_inj, unless-gives}
use Rattle.theory.proofs.Accepted.{accepted-lawful}
use Rattle.theory.proofs.Listing.{listing-same}
use Rattle.theory.proofs.Live.{copies_nodup, copies-closed}
use Rattle.theory.proofs.Completion.{live-near, near-nearest, completion-is}
use Rattle.theory.proofs.Rows.{ready-live}
use Rattle.theory.proofs.Faults.{Shown, faults-shown, faulty-shown, collides-is, goes-blocked}
use Rattle.theory.proofs.Faults.{waiting-stuck, missed_kind}
use Rattle.theory.proofs.Verdict.{Fits, live_for-is, Searched, listed-live, Found, found}

module _ (S : System) (W : Waits S) (lawful : Lawful S W) where
  -- ---- local copies, and which are live

  copies-same : (i K L : ℕ) → length (copies S i K) ≤ K → length (copies S i L) ≤ L → copies S i K ≡ copies S i L
  unfolding copies
  copies-same i K L b c = listing-same S.same (solo_next S i) S.init S.init K L b c

  live_same : (K L : ℕ) → Fits S W lawful K → Fits S W lawful L → all_live S K ≡ all_live S L
  live_same K L b c =
      map_same (λ i. live_of S i (copies S i K)) (λ i. live_of S i (copies S i L)) (up_to S.members)
      (λ i m. let h = up_to_mem S.members m in ap (live_of S i) (copies-same i K L (b i h) (c i h)))

  -- a live copy's completion
  completion-same : (K L : ℕ) → Fits S W lawful K → Fits S W lawful L → (i : ℕ) → i < S.members → (s : S.State)
      → live_for S K i s ≡ true
      → completion S i K s ≡ completion S i L s
  completion-same K L b c i h s e =
      let r = live-near S W lawful i (copies S i K) (copies_nodup S W lawful i K)
      (copies-closed S W lawful i K (b i h)) s (sym (live_for-is S W lawful K i s h) ∙ e) in
      let n = near-nearest S i r.0 s r.2 in
      let q = ap length (copies-same i K L (b i h) (c i h)) in
      completion-is S i n.0 K s n.2 (omega (arith, r.1, n.1, b i h))
      ∙ sym (completion-is S i n.0 L s n.2 (omega (arith, r.1, n.1, c i h, q)))

  -- ---- a conflict by either completion

  module _
      (live : ℕ → S.State → Bool)
      (one other : ℕ → S.State → List ℕ)
      (same : (i : ℕ) → i < S.members → (s : S.State) → live i s ≡ true → one i s ≡ other i s)
      (c : Row S)
      (lives : (j : ℕ) → j < S.members → live j (local_copy S c j) ≡ true)
    where
      -- after a ready action
      ready-same : (j a : ℕ) → j < S.members → S.owner a ≡ j → ready S live c a ≡ true
          → one j (result_of S a (local_copy S c j)) ≡ other j (result_of S a (local_copy S c j))
      ready-same j a h own r =
          same j h (result_of S a (local_copy S c j))
          (subst (λ (i : ℕ). live i (result_of S a (local_copy S c i)) ≡ true) own (ready-live S live c a r))

      rest-same : {f : Fault} → Shown S W live c f → (j : ℕ) → j < S.members
          → rest_at S W live c one f j ≡ rest_at S W live c other f j
      unfolding rest_at colliding
      rest-same (Shown.collision e) j h = at (eqb j (S.owner a)) refl
        where
          a : ℕ
          a = colliding S W live c

          is : ready S live c a ≡ true
          is = (collides-is S W live c a (lowest (collides S W live c) S.actions e).passes).is_ready

          at : (b : Bool) → eqb j (S.owner a) ≡ b
              → cond b (a ∷ one j (result_of S a (local_copy S c j))) (one j (local_copy S c j))
              ≡ cond b (a ∷ other j (result_of S a (local_copy S c j))) (other j (local_copy S c j))
          at true q = ap (λ (p : List ℕ). a ∷ p) (ready-same j a h (sym (eqb-true j (S.owner a) q)) is)
          at false q = same j h (local_copy S c j) (lives j h)
      rest-same (Shown.deadlock e) j h = at (goes_on S W live c j) refl
        where
          a : ℕ
          a = waiting S W live c j

          at : (b : Bool) → goes_on S W live c j ≡ b
              → cond b (a ∷ one j (result_of S a (local_copy S c j))) []
              ≡ cond b (a ∷ other j (result_of S a (local_copy S c j))) []
          at true q =
              let k = waiting-stuck S W live c j (goes-blocked S W live c e j h q) in
              ap (λ (p : List ℕ). a ∷ p) (ready-same j a h k.own k.is_ready)
          at false q = refl
      rest-same (Shown.missed {f = f} e m) j h =
          let q = missed_kind S (shared_copy S c) (up_to S.members) m in
          subst (λ (g : Fault). rest_at S W live c one g j ≡ rest_at S W live c other g j) (sym q.1) refl

      conflict-same : {f : Fault} → Shown S W live c f → (walk : List ℕ)
          → conflict_by S W live one walk c f ≡ conflict_by S W live other walk c f
      unfolding conflict_by
      conflict-same {f} s walk =
          ap
          (λ (plans : List (List ℕ)). record {
            told = record { fault = f; picked = length walk; missing = missing_at S W live c f };
            plans = plans;
            picks = map S.owner walk ++ last_pick S W live c f;
          })
          (map_same (λ i. own_moves S i walk ++ rest_at S W live c one f i)
          (λ i. own_moves S i walk ++ rest_at S W live c other f i) (up_to S.members)
          (λ j m. ap (λ (p : List ℕ). own_moves S j walk ++ p) (rest-same s j (up_to_mem S.members m))))

  -- ---- the verdict that is given

  -- on the listed rows, by a test of liveness and with completions of fewer than K steps
  abbrev verdict_by : ℕ → (ℕ → S.State → Bool) → List (Row S) → Verdict Conflict
  verdict_by K live rows =
      cond (any_of (faulty S W live) rows) (not_robust (first_conflict S W live K rows)) (robust (length rows))

  -- member i is the lowest whose I is dead, or the configurations are listed
  data Given (K C : ℕ) : Verdict Conflict → Type 0 where
    dead : {i : ℕ} → Fits S W lawful K → i < S.members → live_for S K i S.init ≡ false
        → ((j : ℕ) → j < i → live_for S K j S.init ≡ true) → Given K C (unsolvable i)
    searched : Searched S W lawful K C → Given K C (verdict_by K (live_for S K) (listed_with S K C))

  given : (K C : ℕ) (v : Verdict Conflict) → verdict_in S W K C ≡ gives v → Given K C v
  given K C v e = at (verdict_in S W K C) (found S W lawful K C) e
    where
      rows : List (Row S)
      rows = listed_with S K C

      shows : Row S → Bool
      shows = faulty S W (live_for S K)

      on : Searched S W lawful K C → (b : Bool) → any_of shows rows ≡ b
          → Given K C (cond b (not_robust (first_conflict S W (live_for S K) K rows)) (robust (length rows)))
      on s b q =
          subst (λ (x : Bool). Given K C (cond x (not_robust (first_conflict S W (live_for S K) K rows))
          (robust (length rows)))) q (searched s)

      at : (x : Answer (Verdict Conflict)) → Found S W lawful K C x → x ≡ gives v → Given K C v
      at x (Found.copies-full h l) e = absurd (refused-gives e)
      at x (Found.configurations-full b live l) e = absurd (refused-gives e)
      at x (Found.dead b h d lower) e = subst (Given K C) (gives_inj e) (dead b h d lower)
      at x (Found.faults-shown {k = k} s f) e =
          subst (Given K C) (gives_inj e)
          (on s true (true-any shows (mem-get_d rows k (start_row S) f.below) f.passes))
      at x (Found.faultless s none) e =
          subst (Given K C) (gives_inj e)
          (on s false
          (false-any shows rows (λ c m. ap (λ (fs : List Fault). ltb 0 (length fs)) (none c m))))

  -- ---- two rooms

  module _ (K C L D : ℕ) where
    test-same : Fits S W lawful K → Fits S W lawful L → live_for S K ≡ live_for S L
    test-same b c = ap (live_in S) (live_same K L b c)

    rows_same : Searched S W lawful K C → Searched S W lawful L D → listed_with S K C ≡ listed_with S L D
    unfolding configurations
    rows_same s z =
        let q : listed_with S K C ≡ configurations S (live_for S L) C =
        ap (λ (test : ℕ → S.State → Bool). configurations S test C) (test-same s.fits z.fits) in
        q
        ∙ listing-same (same_row S.same) (moves S (live_for S L)) (start_row S) (start_row S) C D
        (subst (λ (r : List (Row S)). length r ≤ C) q s.room) z.room

    -- with either completions
    first-same : Fits S W lawful L → Searched S W lawful K C
        → any_of (faulty S W (live_for S K)) (listed_with S K C) ≡ true
        → first_conflict S W (live_for S K) K (listed_with S K C) ≡ first_conflict S W (live_for S K) L (listed_with S K C)
    unfolding first_conflict
    first-same b s some =
        let live = live_for S K in
        let rows = listed_with S K C in
        let (k, f) = first_index (faulty S W live) (start_row S) rows some in
        let row = get_or rows k (start_row S) in
        let shown = faults-shown S W live row (faulty-shown S W live row f.passes) in
        rw (first-at (faulty S W live) (start_row S) rows k f)
        (conflict-same live (λ i. completion S i K) (λ i. completion S i L)
        (λ i h x e. completion-same K L s.fits b i h x e) row
        (listed-live S W lawful K C s row (mem-get_d rows k (start_row S) f.below))
        shown (walk_to S live rows row))

    by-either : Fits S W lawful L → Searched S W lawful K C
        → verdict_by K (live_for S K) (listed_with S K C) ≡ verdict_by L (live_for S K) (listed_with S K C)
    by-either b s = at (any_of (faulty S W (live_for S K)) (listed_with S K C)) refl
      where
        count : ℕ
        count = length (listed_with S K C)

        at : (x : Bool) → any_of (faulty S W (live_for S K)) (listed_with S K C) ≡ x
            → cond x (not_robust (first_conflict S W (live_for S K) K (listed_with S K C))) (robust count)
            ≡ cond x (not_robust (first_conflict S W (live_for S K) L (listed_with S K C))) (robust count)
        at true q = ap not_robust (first-same b s q)
        at false q = refl

    verdict-same : Searched S W lawful K C → Searched S W lawful L D
        → verdict_by K (live_for S K) (listed_with S K C) ≡ verdict_by L (live_for S L) (listed_with S L D)
    verdict-same s z =
        by-either z.fits s
        ∙ ap (λ (test : ℕ → S.State → Bool). verdict_by L test (listed_with S K C)) (test-same s.fits z.fits)
        ∙ ap (verdict_by L (live_for S L)) (rows_same s z)

    -- who is dead in one room is dead in the other
    dead_not : Fits S W lawful K → Fits S W lawful L → (i : ℕ) → live_for S K i S.init ≡ false
        → live_for S L i S.init ≡ true → ⊥
    dead_not b c i d l =
        true-not-false l
        (ap (λ (test : ℕ → S.State → Bool). test i S.init) (sym (test-same b c)) ∙ d)

  one-verdict_in : (K C L D : ℕ) (v w : Verdict Conflict) → verdict_in S W K C ≡ gives v → verdict_in S W L D ≡ gives w
      → v ≡ w
  one-verdict_in K C L D v w e g = at v w (given K C v e) (given L D w g)
    where
      at : (v w : Verdict Conflict) → Given K C v → Given L D w → v ≡ w
      at v w (dead {i = i} b h d lower) (dead {i = j} c k f below) =
          let m : i ≡ j = ⊎_elim (λ (l : i < j). absurd (dead_not K C L D b c i d (below i l)))
          (λ (l : j ≤ i). ⊎_elim (λ (n : j < i). absurd (dead_not L D K C c b j f (lower j n))) (λ n. omega arith)
          (lt-or_ge j i)) (lt-or_ge i j) in
          ap unsolvable m
      at v w (dead {i = i} b h d lower) (searched z) = absurd (dead_not K C L D b z.fits i d (z.solvable i h))
      at v w (searched s) (dead {i = j} c k f below) = absurd (dead_not L D K C c s.fits j f (s.solvable j k))
      at v w (searched s) (searched z) = verdict-same K C L D s z

pub one-verdict : (t : List ℕ) → OneVerdict t
unfolding verdict
one-verdict t r q v w e g =
    let K : Room → ℕ = λ x. local_rows t x.local_table in
    let C : Room → ℕ = λ x. configuration_rows t x.configuration_table in
    let (p, x) = unless-gives (check t else (14 if too_short t r)) (verdict_in (system t) (waits t) (K r) (C r)) e in
    let (p', y) = unless-gives (check t else (14 if too_short t q)) (verdict_in (system t) (waits t) (K q) (C q)) g in
    let ok = (else_both (check t) (14 if too_short t r) p).0 in
    one-verdict_in (system t) (waits t) (accepted-lawful t ok) (K r) (C r) (K q) (C q) v w x y
