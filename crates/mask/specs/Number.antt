-- The numbers that masks, local copies and shared copies stand for.
use Rattle.std.specs.Prelude.{ℕ}
use Rattle.semantics.specs.Words.{of_words}
use Rattle.mask.specs.declared.Mask.{Mask}
use Rattle.mask.specs.declared.Local.{Local}
use Rattle.mask.specs.declared.Shared.{Shared}

abbrev pub number : Mask → ℕ
number m = of_words m.0 m.1

abbrev pub local_number : Local → ℕ
local_number s = number s.0

abbrev pub shared_number : Shared → ℕ
shared_number g = number g.0
