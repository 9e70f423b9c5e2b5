-- Two sequences of picks on one run are one sequence: the runner may stop and go on. Assumes nothing.
use mathlib.Core.Path.{◌≡◌, refl, sym, ap, ◌∙◌}
use mathlib.Core.List.{List, [], ◌∷◌, ◌++◌}
use Prim.Native.Nat.{ℕ}
use Rattle.semantics.specs.Base.{Answer, refused, gives}
use Rattle.semantics.specs.Task.{members}
use Rattle.semantics.specs.System.{System, Waits, system, waits}
use Rattle.semantics.specs.Run.{Run, pass_over, run_after, tally, lacked, pick, play, replay_on, plans_of}
use Rattle.semantics.specs.Dispatch.{Numbered, counts, play_numbered, play_on}
use Rattle.semantics.specs.Demands.{RunFits}
use Rattle.theory.proofs.Dispatch.{fits_list, fits-play}

module _ (S : System) (W : Waits S) (plans : List (List ℕ)) where
  pub play-append : (r : Run S.State) (xs ys : List ℕ)
      → play S W plans r (xs ++ ys) ≡ play S W plans (play S W plans r xs) ys
  unfolding play
  play-append r [] ys = refl
  play-append r (j ∷ xs) ys = play-append (pass_over r (pick S W plans r j)) xs ys

  pub play_numbered-append : (d : Numbered S.State) (xs ys : List ℕ)
      → play_numbered S W plans d (xs ++ ys) ≡ play_numbered S W plans (play_numbered S W plans d xs) ys
  unfolding play_numbered
  play_numbered-append d [] ys = refl
  play_numbered-append d (j ∷ xs) ys = play_numbered-append (pass_over d (counts d (pick S W plans d.run j))) xs ys

  -- joint replay's run after a list of picks, and the picks done
  pub after : Answer (Run S.State) → List ℕ → Answer (Run S.State)
  after (refused e) [] = refused e
  after (refused e) (j ∷ xs) = refused e
  after (gives r) [] = gives r
  after (gives r) (j ∷ xs) = after (run_after (pick S W plans r j)) xs

  pub count : Answer (Run S.State) → ℕ → List ℕ → ℕ
  count (refused e) k [] = k
  count (refused e) k (j ∷ xs) = k
  count (gives r) k [] = k
  count (gives r) k (j ∷ xs) = count (run_after (pick S W plans r j)) (tally k (pick S W plans r j)) xs

  -- what the last pick lacked
  pub lacked_last : Answer (Run S.State) → ℕ → List ℕ → ℕ
  lacked_last (refused e) m [] = m
  lacked_last (refused e) m (j ∷ xs) = m
  lacked_last (gives r) m [] = m
  lacked_last (gives r) m (j ∷ xs) = lacked_last (run_after (pick S W plans r j)) (lacked (pick S W plans r j)) xs

  pub replay-append : (a : Answer (Run S.State)) (k m : ℕ) (xs ys : List ℕ)
      → replay_on S W plans a k m (xs ++ ys) ≡ replay_on S W plans (after a xs) (count a k xs) (lacked_last a m xs) ys
  unfolding replay_on after count lacked_last
  replay-append (refused e) k m [] ys = refl
  replay-append (refused e) k m (j ∷ xs) [] = refl
  replay-append (refused e) k m (j ∷ xs) (i ∷ ys) = refl
  replay-append (gives r) k m [] ys = refl
  replay-append (gives r) k m (j ∷ xs) ys =
      replay-append (run_after (pick S W plans r j)) (tally k (pick S W plans r j)) (lacked (pick S W plans r j)) xs ys

-- the dispatcher's list of picks, on a run that is not refused
module _ (t plans ends : List ℕ) (d : Numbered ℕ) (f : RunFits t plans ends d.run) where
  abbrev played : List ℕ → Numbered ℕ
  played xs = play_numbered (system t) (waits t) (plans_of (members t) plans ends) d xs

  pub play_on-append : (xs ys : List ℕ) → play_on t plans ends d (xs ++ ys) ≡ play_on t plans ends (played xs) ys
  play_on-append xs ys =
      fits_list t plans ends d f (xs ++ ys)
      ∙ ap gives (play_numbered-append (system t) (waits t) (plans_of (members t) plans ends) d xs ys)
      ∙ sym (fits_list t plans ends (played xs) (fits-play t plans ends d f xs) ys)
