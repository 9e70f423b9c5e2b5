-- L1 to L12, and further rows: each computes as the paper says.
use mathlib.Core.Path.{refl}
use mathlib.Core.List.{flatten}
use lib.ListN.{drop}
use Rattle.semantics.specs.Base.{any_of, all_of, collect, keep, first_of, numbers_from, first_refusal}
use Rattle.semantics.specs.Mask.{within, after, below}
use Rattle.semantics.specs.Task.{head_fits, goal_row, action_row, check}
use Rattle.semantics.specs.Step.{routine, step}
use Rattle.semantics.specs.Listing.{add_new, add_all, grow}
use Rattle.semantics.specs.Solo.{solo_from, solo_next, copies, leading_to, live_of, marks_of, ones, solo_search}
use Rattle.semantics.specs.Completion.{near, nearing, steps_in, distance, completion}
use Rattle.semantics.specs.Run.{start, rest, missed_in, pick_step, pick, pickable, steps_left, outcome, replay_on}
use Rattle.semantics.specs.Run.{replay, ends_fit, plans_refusal, joint_replay, pick_on}
use Rattle.semantics.specs.Dispatch.{next_step, pick_numbered, ask_on, commit_on}
use Rattle.semantics.specs.Verdict.{same_row, moved, ready, moves, configurations, collides, stuck, blocked}
use Rattle.semantics.specs.Verdict.{deadlocked, faults, leads_by, action_to, source_of, walk_in, colliding, waiting}
use Rattle.semantics.specs.Verdict.{goes_on, last_pick, missing_at, rest_at, conflict_by, first_conflict, solvable_else}
use Rattle.semantics.specs.Verdict.{verdict_in, verdict}
use Rattle.semantics.proofs.Table.{table, further, searches, wider, asks, commits, lacks, AllHold}

pub laws_hold : AllHold table
unfolding any_of all_of collect flatten keep numbers_from first_refusal within after below head_fits goal_row action_row check
    routine step add_new add_all grow solo_from solo_next copies leading_to live_of start rest missed_in pick_step pick pickable
    steps_left outcome replay_on replay ends_fit plans_refusal joint_replay same_row moved ready moves configurations collides
    stuck blocked deadlocked faults first_of near nearing steps_in distance completion leads_by action_to source_of walk_in
    colliding waiting goes_on last_pick missing_at rest_at conflict_by first_conflict solvable_else verdict_in verdict
laws_hold =
    let later : AllHold (drop 12 table) = (refl, (refl, (refl, (refl, (refl, (refl, (refl, tt))))))) in
    (refl, (refl, (refl, (refl, (refl, (refl, (refl, (refl, (refl, (refl, (refl, (refl, later))))))))))))

pub further_hold : AllHold further
unfolding any_of all_of collect keep numbers_from first_refusal within after below head_fits goal_row action_row check routine
    step add_new add_all grow solo_from solo_next copies leading_to live_of start rest missed_in pick_step pick pickable
    steps_left outcome replay_on replay ends_fit plans_refusal joint_replay same_row moved ready moves configurations collides
    stuck blocked deadlocked faults first_of near nearing steps_in distance completion leads_by action_to source_of walk_in
    colliding waiting goes_on last_pick missing_at rest_at conflict_by first_conflict solvable_else verdict_in verdict
further_hold =
    let last : AllHold (drop 24 further) = (refl, (refl, tt)) in
    let later : AllHold (drop 12 further) =
    (refl, (refl, (refl, (refl, (refl, (refl, (refl, (refl, (refl, (refl, (refl, (refl, last)))))))))))) in
    (refl, (refl, (refl, (refl, (refl, (refl, (refl, (refl, (refl, (refl, (refl, (refl, later))))))))))))

pub searches_hold : AllHold searches
unfolding any_of all_of collect keep numbers_from first_refusal within after below head_fits goal_row action_row check add_new
    add_all grow solo_next copies leading_to live_of marks_of ones solo_search flatten
searches_hold = (refl, (refl, (refl, (refl, (refl, tt)))))

pub wider_hold : AllHold wider
unfolding any_of all_of collect flatten keep numbers_from first_refusal within after below head_fits goal_row action_row check
    routine step add_new add_all grow solo_from solo_next copies leading_to live_of marks_of ones solo_search start rest
    missed_in pick_step pick pickable steps_left outcome replay_on replay ends_fit plans_refusal joint_replay same_row moved ready moves
    configurations collides stuck blocked deadlocked faults first_of near nearing steps_in distance completion leads_by
    action_to source_of walk_in colliding waiting goes_on last_pick missing_at rest_at conflict_by first_conflict solvable_else verdict_in
    verdict
wider_hold =
    let later : AllHold (drop 12 wider) = (refl, (refl, (refl, (refl, (refl, (refl, (refl, (refl, (refl, tt))))))))) in
    (refl, (refl, (refl, (refl, (refl, (refl, (refl, (refl, (refl, (refl, (refl, (refl, later))))))))))))

pub asks_hold : AllHold asks
unfolding any_of all_of numbers_from first_refusal within after below head_fits goal_row action_row check routine solo_from rest
    ends_fit plans_refusal next_step ask_on
asks_hold = (refl, (refl, (refl, (refl, (refl, (refl, (refl, (refl, (refl, (refl, tt))))))))))

pub commits_hold : AllHold commits
unfolding any_of all_of numbers_from first_refusal within after below head_fits goal_row action_row check routine solo_from rest
    pick_step pick ends_fit plans_refusal pick_on pick_numbered commit_on
commits_hold =
    let later : AllHold (drop 12 commits) = (refl, (refl, tt)) in
    (refl, (refl, (refl, (refl, (refl, (refl, (refl, (refl, (refl, (refl, (refl, (refl, later))))))))))))

pub lacks_hold : AllHold lacks
unfolding any_of all_of numbers_from first_refusal within after below head_fits goal_row action_row check routine step solo_from
    start rest missed_in pick_step pick pickable steps_left outcome replay_on replay ends_fit plans_refusal joint_replay pick_on
    pick_numbered
lacks_hold =
    let last : AllHold (drop 12 lacks) = (refl, tt) in
    (refl, (refl, (refl, (refl, (refl, (refl, (refl, (refl, (refl, (refl, (refl, (refl, last))))))))))))
