-- Grouping a task's actions by member keeps the verdict: two accepted tasks, each with the other's actions under other
-- numbers, have the same verdict.
use mathlib.Core.Path.{◌≡◌, refl, sym, ap, subst, ◌∙◌}
use mathlib.Core.Bool.{true, false}
use mathlib.Core.Logic.{inl, inr, ⊎_elim, ◌↔◌}
use mathlib.Core.List.{List, []}
use Prim.Native.Nat.{ℕ, suc, ◌/◌, ◌≤◌, ◌<◌}
use native.Mathlib.Omega.{arith}
use lib.ListN.{length}
use Rattle.semantics.specs.Base.{Answer, refused, gives, ◌if◌, ◌else◌}
use Rattle.semantics.specs.Words.{states_in}
use Rattle.semantics.specs.Task.{check, members, initial}
use Rattle.semantics.specs.System.{Lawful, system, waits}
use Rattle.semantics.specs.Model.{Robust}
use Rattle.semantics.specs.Verdict.{Room, local_rows, configuration_rows, too_short, unsolvable, not_robust, robust}
use Rattle.semantics.specs.Verdict.{Verdict, Conflict, verdict_in, verdict}
use Rattle.semantics.specs.Demands.{setting, Solvable, Lists, Exceed, Configured, CopiesExceed, VerdictSearch}
use Rattle.semantics.specs.PddlWrite.{grouped}
use Rattle.semantics.specs.PddlDemands.{class_of, answer_class, Groups}
use Rattle.theory.proofs.Lists.{apart, bool_cases}
use Rattle.theory.proofs.Refusals.{else_both, if_false, refused-gives, gives_inj, unless-gives}
use Rattle.theory.proofs.Accepted.{accepted, accepted-lawful}
use Rattle.theory.proofs.Listing.{index_nodup, pigeonhole}
use Rattle.theory.proofs.Verdict.{live_for-sound, Searched, Found, found}
use Rattle.theory.proofs.VerdictSearch.{verdict-searches}
use Rattle.theory.proofs.Agrees.Solo.{leads_solution}
use Rattle.theory.proofs.Demand3.{demand3}
use Rattle.pddl_theory.proofs.RegroupedModel.{robust-renamed}
use Rattle.pddl_theory.proofs.RegroupedTasks.{action_word, Renumbers, renames, exceed_sub, solvable_renumbered}
use Rattle.pddl_theory.proofs.RegroupedTasks.{copies_renumbered, configured_renumbered}
use Rattle.pddl_theory.proofs.RegroupedWords.{grouped-members, grouped-actions, grouped-initial, grouped-goal}
use Rattle.pddl_theory.proofs.RegroupedWords.{old, old_below, old-word, new, grouped-accepted}

-- ---- a task alone

abbrev AllSolvable : List ℕ → Type 0
AllSolvable t = (j : ℕ) → j < members t → Solvable t j

module _ (t : List ℕ) (room : Room) (ok : check t ≡ 0) where
  abbrev K : ℕ
  K = local_rows t room.local_table

  abbrev C : ℕ
  C = configuration_rows t room.configuration_table

  short-refused : too_short t room ≡ true → verdict t room ≡ refused 14
  unfolding verdict
  short-refused e = rw (ok, e)

  module _ {v : Verdict Conflict} (e : verdict t room ≡ gives v) where
    answered : (too_short t room ≡ false) × (verdict_in (system t) (waits t) K C ≡ gives v)
    unfolding verdict
    answered =
        let (r, x) =
        unless-gives (check t else (14 if too_short t room)) (verdict_in (system t) (waits t) K C) e in
        (if_false 13 (too_short t room) (else_both (check t) (14 if too_short t room) r).1, x)

    searched : VerdictSearch t room
    searched = verdict-searches t room ok answered.0

    copies-fit : ¬ CopiesExceed t K
    copies-fit x = refused-gives (sym (searched.full.1 (inl x)) ∙ e)

    -- where the verdict does not say unsolvable, each member has a solving plan
    solvable : ((i : ℕ) → v ≡ unsolvable i → ⊥) → AllSolvable t
    solvable n = at (verdict_in (system t) (waits t) K C) (found (system t) (waits t) lawful K C) answered.1
      where
        lawful : Lawful (system t) (waits t)
        lawful = accepted-lawful t ok

        by : Searched (system t) (waits t) lawful K C → AllSolvable t
        by s j h =
            let (π, l) = live_for-sound (system t) (waits t) lawful K j (initial t) h (s.solvable j h) in
            (π, leads_solution t j π l)

        at : (x : Answer (Verdict Conflict)) → Found (system t) (waits t) lawful K C x → x ≡ gives v → AllSolvable t
        at x (Found.copies-full h l) q = absurd (refused-gives q)
        at x (Found.configurations-full fits live l) q = absurd (refused-gives q)
        at x (Found.dead {i = i} fits h dead lower) q = absurd (n i (sym (gives_inj q)))
        at x (Found.faults-shown s f) q = by s
        at x (Found.faultless s none) q = by s

-- ---- two tasks

-- accepted, and each has the other's actions
record Alike (t u : List ℕ) : Type 0 where
  checked : check t ≡ 0
  checks : check u ≡ 0
  to : ℕ → ℕ
  forth : Renumbers t u to
  from : ℕ → ℕ
  back : Renumbers u t from

turned : {t u : List ℕ} → Alike t u → Alike u t
turned s =
    record {
      checked = s.checks;
      checks = s.checked;
      to = s.from;
      forth = s.back;
      from = s.to;
      back = s.forth;
    }

-- a list of what passes one test is no longer than that of what passes a wider one
lists-le : {A : Type 0} {d : A} {P Q : A → Type 0} {xs ys : List A} → Lists d P xs → Lists d Q ys
    → ((x : A) → P x → Q x) → length xs ≤ length ys
lists-le {d = d} {xs = xs} {ys = ys} l m h =
    pigeonhole ys (index_nodup d xs l.distinct) (λ x i. (m.just x).1 (h x ((l.just x).0 i)))

module _ (t u : List ℕ) (s : Alike t u) where
  all-solvable : AllSolvable t → AllSolvable u
  all-solvable h j l =
      let g : j < members t = subst (λ (n : ℕ). j < n) s.back.as_many l in
      solvable_renumbered t u s.to s.forth j g (h j g)

  robust_alike : Robust (setting t) → Robust (setting u)
  robust_alike = robust-renamed (setting u) (setting t) s.from (renames u t s.from s.back)

  configured_alike : (c : List ℕ) → Configured t c → Configured u c
  configured_alike c x = configured_renumbered t u s.to s.forth (accepted t s.checked).owner-member x

module _ {t u : List ℕ} (s : Alike t u) (room room' : Room) where
  unsolvable_alike : {i : ℕ} {v : Verdict Conflict} → verdict t room ≡ gives (unsolvable i) → verdict u room' ≡ gives v
      → v ≡ unsolvable i
  unsolvable_alike {i} e e' =
      let (fit, l, none, lower) = ((searched t room s.checked e).unsolvable i).0 e in
      let l' : i < members u = subst (λ (n : ℕ). i < n) s.forth.as_many l in
      gives_inj
      (sym e'
      ∙ ((searched u room' s.checks e').unsolvable i).1 (
        copies-fit u room' s.checks e',
        l',
        λ p. none (solvable_renumbered u t s.from s.back i l' p),
        λ j h. solvable_renumbered t u s.to s.forth j (omega arith) (lower j h),
      ))

  robust-same : {n : ℕ} {v : Verdict Conflict} → verdict t room ≡ gives (robust n) → verdict u room' ≡ gives v
      → v ≡ robust n
  robust-same {n} {v} e e' =
      let all = solvable t room s.checked e (λ i q. apart (cc)) in
      let all' = all-solvable t u s all in
      let r = robust_alike t u s (((demand3 t room).robust_setting all (robust n) e).0 (n, refl)) in
      let (k, q) = ((demand3 u room').robust_setting all' v e').1 r in
      let S = searched t room s.checked e in
      let S' = searched u room' s.checks e' in
      let rows = (S.listed (robust n) e all).listed in
      let rows' = (S'.listed v e' all').listed in
      let p = lists-le rows rows' (configured_alike t u s) in
      let p' = lists-le rows' rows (configured_alike u t (turned s)) in
      let c = S.counted n e in
      let c' = S'.counted k (e' ∙ ap gives q) in
      let same : k ≡ n = omega (arith, p, p', c, c') in
      q ∙ ap robust same

finding-same : {t u : List ℕ} (s : Alike t u) (room room' : Room) (v v' : Verdict Conflict) → verdict t room ≡ gives v
    → verdict u room' ≡ gives v' → class_of v ≡ class_of v'
finding-same s room room' (unsolvable i) v' e e' = ap class_of (sym (unsolvable_alike s room room' e e'))
finding-same s room room' (robust n) v' e e' = ap class_of (sym (robust-same s room room' e e'))
finding-same s room room' (not_robust x) (unsolvable i) e e' = ap class_of (unsolvable_alike (turned s) room' room e' e)
finding-same s room room' (not_robust x) (robust n) e e' = ap class_of (robust-same (turned s) room' room e' e)
finding-same s room room' (not_robust x) (not_robust y) e e' = refl

-- ---- with the same room

short-same : {t u : List ℕ} (s : Alike t u) (room : Room) → too_short t room ≡ too_short u room
short-same s room = rw s.forth.as_many

full-same : {t u : List ℕ} (s : Alike t u) (room : Room) → too_short t room ≡ false → verdict t room ≡ refused 9
    → verdict u room ≡ refused 9
full-same {t} {u} s room long e =
    let n = s.forth.as_many in
    (verdict-searches u room s.checks (sym (short-same s room) ∙ long)).full.1
    (⊎_elim
    (λ x. inl (subst (λ (k : ℕ). CopiesExceed u (states_in room.local_table / k)) n
    (copies_renumbered t u s.to s.forth (local_rows t room.local_table) x)))
    (λ (y : AllSolvable t × Exceed [] (Configured t) (configuration_rows t room.configuration_table)).
    inr (
      all-solvable t u s y.0,
      subst (λ (k : ℕ). Exceed [] (Configured u) (states_in room.configuration_table / suc k)) n
          (exceed_sub (configured_alike t u s) y.1),
    ))
    ((verdict-searches t room s.checked long).full.0 e))

refusal-same : {t u : List ℕ} (s : Alike t u) (room : Room) (k : ℕ) → too_short t room ≡ false
    → verdict t room ≡ refused k → verdict u room ≡ refused k
refusal-same {t} s room k long e =
    let nine : k ≡ 9 = (verdict-searches t room s.checked long).no_other k e in
    full-same s room long (e ∙ ap refused nine) ∙ ap refused (sym nine)

answer-same : {t u : List ℕ} (s : Alike t u) (room : Room) → answer_class (verdict t room) ≡ answer_class (verdict u room)
answer-same {t} {u} s room =
    ⊎_elim
    (λ e. ap answer_class (short-refused t room s.checked e
    ∙ sym (short-refused u room s.checks (sym (short-same s room) ∙ e))))
    (λ e. by e (verdict t room) (verdict u room) refl refl)
    (bool_cases (too_short t room))
  where
    by : too_short t room ≡ false → (x y : Answer (Verdict Conflict)) → verdict t room ≡ x → verdict u room ≡ y
        → answer_class (verdict t room) ≡ answer_class (verdict u room)
    by long (refused k) y e e' = ap answer_class (e ∙ sym (refusal-same s room k long e))
    by long (gives v) (refused k) e e' =
        ap answer_class (refusal-same (turned s) room k (sym (short-same s room) ∙ long) e' ∙ sym e')
    by long (gives v) (gives w) e e' =
        ap answer_class e ∙ ap gives (finding-same s room room v w e e') ∙ ap answer_class (sym e')

-- ---- the grouped task

grouped_alike : (t : List ℕ) → check t ≡ 0 → Alike t (grouped t)
grouped_alike t ok =
    let fits = accepted t ok in
    record {
      checked = ok;
      checks = grouped-accepted t ok;
      to = λ a. (new t fits a).number;
      forth = record {
        as_many = sym (grouped-members t fits);
        begins = sym (grouped-initial t fits);
        goals = λ i l. sym (grouped-goal t fits i l);
        below = λ a l. subst (λ (m : ℕ). (new t fits a).number < m) (sym (grouped-actions t fits))
            ((new t fits a).stays-below l);
        words = λ a c l.
            ap (λ (b : ℕ). action_word t b c) (sym (new t fits a).is-old)
            ∙ sym (old-word t fits (new t fits a).number c l);
      };
      from = old t fits;
      back = record {
        as_many = grouped-members t fits;
        begins = grouped-initial t fits;
        goals = λ i l. grouped-goal t fits i (subst (λ (n : ℕ). i < n) (grouped-members t fits) l);
        below = λ k l. old_below t fits k (subst (λ (m : ℕ). k < m) (grouped-actions t fits) l);
        words = old-word t fits;
      };
    }

pub solvable-grouped : (t : List ℕ) → check t ≡ 0 → (j : ℕ) → j < members t → Solvable t j ↔ Solvable (grouped t) j
solvable-grouped t ok j l =
    let s = grouped_alike t ok in (
      solvable_renumbered t (grouped t) s.to s.forth j l,
      solvable_renumbered (grouped t) t s.from s.back j (subst (λ (n : ℕ). j < n) s.forth.as_many l),
    )

pub same-verdict : Groups
same-verdict t ok =
    let s = grouped_alike t ok in
    record {
      accepted = grouped-accepted t ok;
      robust = (robust_alike t (grouped t) s, robust_alike (grouped t) t (turned s));
      finding = finding-same s;
      answer = answer-same s;
    }
