-- Parts of the task check.
use Rattle.std.specs.Prelude.{◌≡◌, Bool, ◌&&◌, List, ℕ, ◌+◌, ◌*◌, length}
use Rattle.semantics.specs.Base.{up_to, ◌else◌, first_refusal}
use Rattle.semantics.specs.Task.{row_width, members, actions, action_at, mask_fits, goal_row, action_row}

-- the length is that of the rows
abbrev pub Sized : List ℕ → Type 0
Sized t = length t ≡ row_width * (1 + members t + actions t)

-- the masks of action a have no bit at or above F
unfoldable pub masks_below : List ℕ → ℕ → Bool
masks_below t a =
    mask_fits t (action_at t a) 1 && mask_fits t (action_at t a) 3
    && mask_fits t (action_at t a) 5 && mask_fits t (action_at t a) 7

-- the first refusal of the rows after row 0
abbrev pub rows_refusal : List ℕ → ℕ
rows_refusal t = first_refusal (goal_row t) (up_to (members t)) else first_refusal (action_row t) (up_to (actions t))
