-- The dispatcher: the public pick, done for each pick of a list, makes the runs of demand 3. Assumes nothing.
use mathlib.Core.Path.{◌≡◌, refl, sym, ap, subst, ◌∙◌}
use mathlib.Core.Logic.{◌⊎◌, inl, inr}
use mathlib.Core.List.{List, [], ◌∷◌, map, flatten}
use Prim.Native.Nat.{ℕ, ◌≤◌, ◌<◌}
use native.Mathlib.Omega.{arith}
use lib.ListN.{length, length-map}
use Rattle.semantics.specs.Base.{up_to, Answer, refused, gives}
use Rattle.semantics.specs.Task.{check, members}
use Rattle.semantics.specs.System.{system, waits, Solves, Choice}
use Rattle.semantics.specs.Run.{Run, Replied, pass_over, start, pick, play, plan_of, plans_of, plans_refusal, ends_from}
use Rattle.semantics.specs.Dispatch.{first, Numbered, last_change, counts, play_numbered, play_on}
use Rattle.semantics.specs.Demands.{RunFits, picks, member_of, calls, doing, InSlices, made_run, PickedRuns}
use Rattle.semantics.specs.Demands.{Dispatcher}
use Rattle.theory.proofs.Lists.{up_to_length, get_d_up_to}
use Rattle.theory.proofs.Refusals.{refused-gives}
use Rattle.theory.proofs.Plans.{laid-plans, laid-accepted}
use Rattle.theory.proofs.Picks.{Picked, picked}
use Rattle.theory.proofs.Counts.{Counted, none, full, done, counting}
use Rattle.theory.proofs.Fits.{start_fits, fits_keeps, fits-pick-numbered}
use Rattle.theory.proofs.Calls.{alone, fits-calls, few-calls}
use Rattle.theory.proofs.Agrees.Solo.{solution_leads}
use Rattle.theory.proofs.Agrees.Joint.{joint_replay_agrees_lem}
use Rattle.theory.proofs.Agrees.Pick.{fits-passes}

module _ (t plans ends : List ℕ) where
  abbrev P : List (List ℕ)
  P = plans_of (members t) plans ends

  abbrev pick_p : Run ℕ → ℕ → Answer (Replied (Run ℕ))
  pick_p r j = pick (system t) (waits t) P r j

  abbrev play_p : Run ℕ → List ℕ → Run ℕ
  play_p r js = play (system t) (waits t) P r js

  -- the same with the change number
  abbrev play_n : Numbered ℕ → List ℕ → Numbered ℕ
  play_n d js = play_numbered (system t) (waits t) P d js

  abbrev after : Numbered ℕ → ℕ → Numbered ℕ
  after d j = pass_over d (counts d (pick_p d.run j))

  fits_after : (d : Numbered ℕ) → RunFits t plans ends d.run → (j : ℕ) → RunFits t plans ends (after d j).run
  fits_after d f j = at (counting d (pick_p d.run j)) (fits_keeps t plans ends d.run f j)
    where
      at : {x : Answer (Replied (Run ℕ))} {y : Answer (Replied (Numbered ℕ))} → Counted d x y
          → RunFits t plans ends (pass_over d.run x) → RunFits t plans ends (pass_over d y).run
      at none g = f
      at (full e) g = f
      at (done e) g = g

  -- a list of picks on it leaves a run that fits, and is the public picks one after the other
  pub fits-play : (d : Numbered ℕ) → RunFits t plans ends d.run → (js : List ℕ)
      → RunFits t plans ends (play_n d js).run
  unfolding play_numbered
  fits-play d f [] = f
  fits-play d f (j ∷ js) = fits-play (after d j) (fits_after d f j) js

  pub fits_list : (d : Numbered ℕ) → RunFits t plans ends d.run → (js : List ℕ)
      → play_on t plans ends d js ≡ gives (play_n d js)
  unfolding play_on
  fits_list d f js = rw (fits-passes t plans ends d.run f)

  fits_each : (d : Numbered ℕ) → RunFits t plans ends d.run → (js : List ℕ)
      → calls t plans ends d (map picks js) ≡ play_n d js
  unfolding calls play_numbered
  fits_each d f [] = refl
  fits_each d f (j ∷ js) =
      ap (λ (x : Answer (Replied (Numbered ℕ))). calls t plans ends (pass_over d x) (map picks js))
      (fits-pick-numbered t plans ends d f j)
      ∙ fits_each (after d j) (fits_after d f j) js

  -- ---- the runs that the picks make

  -- the change number never falls
  change-rises : (d : Numbered ℕ) (js : List ℕ) → d.change ≤ (play_n d js).change
  unfolding play_numbered
  change-rises d [] = omega arith
  change-rises d (j ∷ js) = at (counting d (pick_p d.run j)) (change-rises (after d j) js)
    where
      at : {x : Answer (Replied (Run ℕ))} {y : Answer (Replied (Numbered ℕ))} → Counted d x y
          → (pass_over d y).change ≤ (play_n (pass_over d y) js).change → d.change ≤ (play_n (pass_over d y) js).change
      at none l = l
      at (full e) l = l
      at (done e) l = omega arith

  -- where the last change number is not reached, all the picks make the run
  all-plays : (d : Numbered ℕ) (js : List ℕ) → (play_n d js).change < last_change → (play_n d js).run ≡ play_p d.run js
  unfolding play_numbered play
  all-plays d [] l = refl
  all-plays d (j ∷ js) l =
      at (pick_p d.run j) (counting d (pick_p d.run j)) l (all-plays (after d j) js l)
    where
      at : (x : Answer (Replied (Run ℕ))) {y : Answer (Replied (Numbered ℕ))} → Counted d x y
          → (play_n (pass_over d y) js).change < last_change
          → (play_n (pass_over d y) js).run ≡ play_p (pass_over d y).run js
          → (play_n (pass_over d y) js).run ≡ play_p (pass_over d.run x) js
      at x none l m = m
      at x (full e) l m = absurd (omega (arith, change-rises d js))
      at x (done e) l m = m

  -- a pick is refused with 8 or 13, and with 20 at the last change number
  pick_refusals : (d : Numbered ℕ) (j k : ℕ) → counts d (pick_p d.run j) ≡ refused k
      → (k ≡ 8) ⊎ (k ≡ 13) ⊎ ((k ≡ 20) × (d.change ≡ last_change))
  pick_refusals d j k e = at (picked (system t) (waits t) P d.run j) (counting d (pick_p d.run j)) e
    where
      at : {x : Answer (Replied (Run ℕ))} {y : Answer (Replied (Numbered ℕ))}
          → Picked (system t) (waits t) P d.run j x → Counted d x y → y ≡ refused k
          → (k ≡ 8) ⊎ (k ≡ 13) ⊎ ((k ≡ 20) × (d.change ≡ last_change))
      at m (done l) e = absurd (refused-gives (sym e))
      at m (full l) e = inr (inr ((cc), l))
      at (Picked.nobody h) none e = inl (cc)
      at (Picked.closed h c) none e = inr (inl (cc))
      at (Picked.over h c q) none e = inr (inl (cc))
      at (Picked.waits h c q w) none e = inr (inl (cc))

  -- ---- the runs of demand 3

  picked-runs : (c : Choice (system t)) → InSlices t plans ends c → PickedRuns t plans ends c
  picked-runs c (ok, e) =
      record {
        made = λ cs. (alone t plans ends (first t) cs).plays ∙ chosen (map member_of (doing t plans ends (first t) cs));
        few = λ cs. subst (λ (ps : List (List ℕ)). (calls t plans ends (first t) cs).change ≤ length (flatten ps)) e
            (few-calls t plans ends cs);
        each = λ js l.
            ap (λ (d : Numbered ℕ). d.run) (each js)
            ∙ all-plays (first t) js (subst (λ (d : Numbered ℕ). d.change < last_change) (each js) l)
            ∙ chosen js;
        impossible = λ cs j k q.
            let d = calls t plans ends (first t) cs in
            pick_refusals d j k (sym (fits-pick-numbered t plans ends d (fits-calls t plans ends (first t) begins cs) j) ∙ q);
        at_once = λ js. fits_list (first t) begins js ∙ ap gives (sym (each js));
      }
    where
      begins : RunFits t plans ends (start (system t))
      begins = start_fits t plans ends ok

      each : (js : List ℕ) → calls t plans ends (first t) (map picks js) ≡ play_n (first t) js
      each js = fits_each (first t) begins js

      chosen : (js : List ℕ) → play_p (start (system t)) js ≡ made_run t c js
      chosen js = ap (λ (ps : List (List ℕ)). play (system t) (waits t) ps (start (system t)) js) e

  -- plans that are not refused are a choice
  plans-chosen : plans_refusal t plans ends ≡ 0 → (c : Choice (system t)) × InSlices t plans ends c
  plans-chosen ok = (
    record {
      plans = P;
      many = length-map (up_to (members t)) (plan_of plans ends) ∙ up_to_length (members t);
      solving = λ j h.
          subst (λ (p : List ℕ). Solves (system t) j p) (sym (get_d_up_to (plan_of plans ends) (members t) j [] h))
          (solution_leads t j (plan_of plans ends j) (((joint_replay_agrees_lem t plans ends).accepts.0 ok).solutions j h));
    },
    (ok, refl),
  )

pub dispatcher : (t : List ℕ) → check t ≡ 0 → Dispatcher t
dispatcher t accepts =
    record {
      starts = rw accepts;
      chosen = plans-chosen t;
      laid = λ c. (
        flatten c.plans,
        ends_from 0 c.plans,
        (laid-accepted t accepts c.plans c.many c.solving, laid-plans c.plans (members t) c.many),
      );
      runs = picked-runs t;
    }
