-- Plans in one slice: a list of plans, laid end to end, with their ends. Joint replay reads back the list, and does not
-- refuse plans that solve. Plans that are not refused, read by a run. Assumes nothing.
use mathlib.Core.Path.{◌≡◌, refl, sym, ap, subst, ◌∙◌}
use mathlib.Core.Bool.{true}
use mathlib.Core.List.{List, [], ◌∷◌, ◌++◌, flatten, append_assoc}
use Prim.Native.Nat.{ℕ, zero, suc, ◌+◌, ◌-◌, ◌≤◌, ◌<◌}
use native.Mathlib.Nat.{zero-add}
use native.Mathlib.Omega.{arith}
use lib.ListN.{length, get_or, take, drop, length-append, length-map, length-drop}
use lib.Seq.{slice, take_at, drop_at, ext_get_or}
use lib.Dec.{leb}
use borrow.Author.Tests.{lt-ltb, eq-eqb, le-leb}
use Rattle.semantics.specs.Base.{up_to, first_refusal}
use Rattle.semantics.specs.Task.{check, members, actions, owner}
use Rattle.semantics.specs.System.{System, system, waits, Leads, done, next, Solves}
use Rattle.semantics.specs.Solo.{solves, solo_from, entry}
use Rattle.semantics.specs.Run.{Run, rest, replay, joint_replay}
use Rattle.semantics.specs.Run.{beginning, plan_of, plans_of, ends_from, ends_fit, plan_refusal, plans_refusal}
use Rattle.theory.proofs.Lists.{and_intro, true-all, up_to_mem, get_d_up_to, up_to_length}
use Rattle.theory.proofs.Refusals.{else_both, no-refusal}

unfoldable pub ends_from-length : (k : ℕ) (ps : List (List ℕ)) → length (ends_from k ps) ≡ length ps
unfolding ends_from
ends_from-length k [] = refl
ends_from-length k (p ∷ ps) = ap suc (ends_from-length (k + length p) ps)

-- where plan j begins, and that it ends no earlier
begins : (k : ℕ) (ps : List (List ℕ)) (j : ℕ) → j < length ps → get_or (k ∷ ends_from k ps) j 0 ≤ get_or (ends_from k ps) j 0
unfolding ends_from
begins k [] j h = absurd (omega arith)
begins k (p ∷ ps) zero h = omega arith
begins k (p ∷ ps) (suc j) h = begins (k + length p) ps j (omega arith)

-- the last ends at the slice's end
last-ends : (k : ℕ) (ps : List (List ℕ)) → get_or (k ∷ ends_from k ps) (length ps) 0 ≡ k + length (flatten ps)
unfolding ends_from flatten
last-ends k [] = omega arith
last-ends k (p ∷ ps) =
    let e : k + length p + length (flatten ps) ≡ k + length (p ++ flatten ps) =
    omega (arith, length-append p (flatten ps)) in
    last-ends (k + length p) ps ∙ e

-- plan j, read back after whatever stands before the first
reads-back : (front : List ℕ) (k : ℕ) (ps : List (List ℕ)) (j : ℕ) → length front ≡ k → j < length ps
    → slice (get_or (k ∷ ends_from k ps) j 0) (get_or (ends_from k ps) j 0) (front ++ flatten ps) ≡ get_or ps j []
unfolding ends_from flatten
reads-back front k [] j e h = absurd (omega arith)
reads-back front k (p ∷ ps) zero e h =
    ap (λ (l : List ℕ). drop k (take (k + length p) l)) (sym (append_assoc front p (flatten ps)))
    ∙ ap (drop k) (take_at (front ++ p) (flatten ps) (k + length p) (omega (arith, length-append front p)))
    ∙ drop_at front p k e
reads-back front k (p ∷ ps) (suc j) e h =
    ap (slice (get_or ((k + length p) ∷ ends_from (k + length p) ps) j 0) (get_or (ends_from (k + length p) ps) j 0))
    (sym (append_assoc front p (flatten ps)))
    ∙ reads-back (front ++ p) (k + length p) ps j (omega (arith, length-append front p)) (omega arith)

module _ (ps : List (List ℕ)) where
  pub laid-plan : (j : ℕ) → j < length ps → plan_of (flatten ps) (ends_from 0 ps) j ≡ get_or ps j []
  laid-plan j h = reads-back [] 0 ps j refl h

  pub laid-plans : (n : ℕ) → length ps ≡ n → plans_of n (flatten ps) (ends_from 0 ps) ≡ ps
  laid-plans n e =
      ext_get_or [] (plans_of n (flatten ps) (ends_from 0 ps)) ps (plans-length ∙ sym e)
      (λ j h. let b : j < n =
      omega (arith, plans-length) in
      get_d_up_to (plan_of (flatten ps) (ends_from 0 ps)) n j [] b ∙ laid-plan j (omega arith))
    where
      plans-length : length (plans_of n (flatten ps) (ends_from 0 ps)) ≡ n
      plans-length = length-map (up_to n) (plan_of (flatten ps) (ends_from 0 ps)) ∙ up_to_length n

  pub laid-fit : (n : ℕ) → length ps ≡ n → ends_fit n (flatten ps) (ends_from 0 ps) ≡ true
  unfolding ends_fit
  laid-fit n e =
      and_intro
      (and_intro
      (eq-eqb (length (ends_from 0 ps)) n (ends_from-length 0 ps ∙ e))
      (true-all (λ j. leb (beginning (ends_from 0 ps) j) (get_or (ends_from 0 ps) j 0)) (up_to n)
      (λ j m.
      le-leb (beginning (ends_from 0 ps) j) (get_or (ends_from 0 ps) j 0)
      (begins 0 ps j (subst (λ (x : ℕ). j < x) (sym e) (up_to_mem n m))))))
      (eq-eqb (beginning (ends_from 0 ps) n) (length (flatten ps))
      (ap (λ (x : ℕ). get_or (0 ∷ ends_from 0 ps) x 0) (sym e) ∙ last-ends 0 ps ∙ zero-add (length (flatten ps))))

-- ---- plans that solve are not refused

pub leads-solves : (S : System) (i k : ℕ) {s : S.State} {p : List ℕ} → Leads S i s p → solo_from S i k s p ≡ solves
unfolding solo_from
leads-solves S i k (done g) = rw g
leads-solves S i k (next {s = s} {a = a} own b l) = rw b (leads-solves S i (suc k) l)

pub leads-entries : (t : List ℕ) (i : ℕ) {s : ℕ} {p : List ℕ} → Leads (system t) i s p → first_refusal (entry t i) p ≡ 0
unfolding first_refusal
leads-entries t i (done g) = refl
leads-entries t i (next {a = a} own b l) =
    rw (lt-ltb a (actions t) own.0, eq-eqb (owner t a) i own.1) (leads-entries t i l)

module _ (t : List ℕ) (accepted : check t ≡ 0) (ps : List (List ℕ)) (many : length ps ≡ members t)
    (solving : (j : ℕ) → j < members t → Solves (system t) j (get_or ps j [])) where
  pub laid-accepted : plans_refusal t (flatten ps) (ends_from 0 ps) ≡ 0
  unfolding plans_refusal
  laid-accepted =
      rw (accepted, laid-fit ps (members t) many)
      (no-refusal (λ j. plan_refusal t j (plan_of (flatten ps) (ends_from 0 ps) j)) (up_to (members t))
      (λ j m.
      let h = up_to_mem (members t) m in
      let l = solving j h in
      rw (laid-plan ps j (subst (λ (x : ℕ). j < x) (sym many) h), leads-entries t j l, leads-solves (system t) j 0 l)))

  pub laid-replays : (picks : List ℕ)
      → joint_replay t (flatten ps) (ends_from 0 ps) picks ≡ replay (system t) (waits t) ps picks
  unfolding joint_replay
  laid-replays picks = rw (laid-accepted, laid-plans ps (members t) many)

-- ---- plans that are not refused

-- they are of an accepted task
pub checked-task : (t plans ends : List ℕ) → plans_refusal t plans ends ≡ 0 → check t ≡ 0
unfolding plans_refusal
checked-task t plans ends h = (else_both (check t) _ h).0

-- what is left of member j's plan in a run
module _ (n : ℕ) (plans ends : List ℕ) (r : Run ℕ) (j : ℕ) (h : j < n) where
  pub rest-is : rest (plans_of n plans ends) r j ≡ drop (r.places j) (plan_of plans ends j)
  unfolding rest
  rest-is = ap (drop (r.places j)) (get_d_up_to (plan_of plans ends) n j [] h)

  pub rest-length : length (rest (plans_of n plans ends) r j) ≡ length (plan_of plans ends j) - r.places j
  rest-length = ap length rest-is ∙ length-drop (r.places j) (plan_of plans ends j)
