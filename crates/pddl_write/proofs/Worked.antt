-- A law of two members whose actions stand mixed, with waits, and with an action that adds and deletes the same fact:
-- what is written reads back to its grouped task. Assumes nothing.
use mathlib.Core.Path.{◌≡◌, refl}
use mathlib.Core.List.{List, [], ◌∷◌, ◌++◌, flatten}
use Prim.Native.Nat.{ℕ}
use lib.ListN.{replicate}
use Rattle.semantics.specs.Base.{gives, numbers_from, any_of, all_of, collect, keep, first_refusal}
use Rattle.semantics.specs.Mask.{has, within, below, standing}
use Rattle.semantics.specs.Task.{head_fits, goal_row, action_row, check}
use Rattle.semantics.specs.Text.{records_from, fields_from, number, digits_in, is_field, is_record, text_words}
use Rattle.semantics.specs.Pddl.{in_word, is_blank, small, tokens_from, same, none_twice, is_name, many_in, same_token}
use Rattle.semantics.specs.Pddl.{expect, name, atom, negation, literal, formula, action, domain, problem, member}
use Rattle.semantics.specs.Pddl.{members_of, same_names, well_named, waits_known, named, in_limits, bit_from, mask_of}
use Rattle.semantics.specs.Pddl.{wait_mask, goal_rows, own_rows, action_rows, words_of, read_pddl}
use Rattle.semantics.specs.PddlWrite.{own, order, row_of, grouped, spelt, each, numbered, atom_text}
use Rattle.semantics.specs.PddlWrite.{negation_text, effects_text, action_text, domain_text, goal_text, problem_text}
use Rattle.semantics.specs.PddlWrite.{member_text, members_text, law_text, wait_text, action_waits, waits_text}

-- the owners of its four actions are 1, 0, 1, 0
unfoldable pub mixed : List ℕ
mixed =
    3 ∷ 2 ∷ 4 ∷ 1 ∷ 0 ∷ 0 ∷ 0 ∷ 0 ∷ 0
    ∷ 0 ∷ 6 ∷ 0 ∷ 0 ∷ 0 ∷ 0 ∷ 0 ∷ 0 ∷ 0
    ∷ 1 ∷ 4 ∷ 0 ∷ 0 ∷ 0 ∷ 0 ∷ 0 ∷ 0 ∷ 0
    ∷ 1 ∷ 3 ∷ 0 ∷ 2 ∷ 0 ∷ 4 ∷ 0 ∷ 4 ∷ 0
    ∷ 0 ∷ 1 ∷ 0 ∷ 1 ∷ 0 ∷ 2 ∷ 0 ∷ 1 ∷ 0
    ∷ 1 ∷ 7 ∷ 0 ∷ 5 ∷ 0 ∷ 0 ∷ 0 ∷ 7 ∷ 0
    ∷ 0 ∷ 0 ∷ 0 ∷ 0 ∷ 0 ∷ 0 ∷ 0 ∷ 0 ∷ 0
    ∷ []

pub mixed-reads-back : read_pddl (law_text mixed) (waits_text mixed) (replicate 68 9)
    ≡ record { answer = gives 7; words = grouped mixed ++ replicate 5 0 }
unfolding own order row_of grouped spelt each numbered standing atom_text negation_text effects_text goal_text action_text
    domain_text problem_text member_text members_text law_text wait_text action_waits waits_text mixed flatten numbers_from
    collect keep has digits_in any_of all_of first_refusal within below head_fits goal_row action_row check records_from
    fields_from number is_field is_record text_words in_word is_blank small tokens_from same none_twice is_name many_in
    same_token expect name atom negation literal formula action domain problem member members_of same_names well_named
    waits_known named in_limits bit_from mask_of wait_mask goal_rows own_rows action_rows words_of read_pddl
mixed-reads-back = refl
