-- The files of two worked laws, byte for byte: L1 as the paper prints it, and L2 with its conflict; and one in which
-- several facts are missing. Assumes nothing.
use mathlib.Core.Path.{◌≡◌, refl}
use mathlib.Core.List.{List, [], ◌∷◌, ◌++◌, flatten}
use Prim.Native.Nat.{ℕ, ◌+◌, ◌^◌}
use Prim.Native.String.{String}
use Rattle.semantics.specs.Base.{numbers_from, collect, keep, gives}
use Rattle.semantics.specs.Mask.{has, standing}
use Rattle.semantics.specs.Text.{digits_in}
use Rattle.semantics.specs.Run.{Fault}
use Rattle.semantics.specs.Verdict.{not_robust, robust}
use Rattle.report.specs.File.{word, line_end, lines, plans_lines, missing_lines, file}

abbrev row : String → List ℕ
row s = word s ++ line_end

l1-file : file (gives (robust 12)) 2 [] [] [] ≡ row "verdict,number" ++ row "robust,12"
unfolding word numbers_from digits_in
l1-file = refl

l2-file : file (gives (not_robust (record { fault = Fault.collision; picked = 1; missing = 1 }))) 2
    (0 ∷ 1 ∷ 2 ∷ 3 ∷ []) (2 ∷ 4 ∷ []) (0 ∷ 1 ∷ [])
    ≡ row "verdict,number" ++ row "collision,1" ++ row "missing,0" ++ row "plan,0" ++ row "action,0" ++ row "action,1" ++ row "plan,1"
    ++ row "action,2" ++ row "action,3" ++ row "pick,0" ++ row "pick,1"
unfolding word numbers_from digits_in lines plans_lines flatten keep collect has standing missing_lines
l2-file = refl

-- facts of both words are missing: a line for each, rising
missing-file : file (gives (not_robust (record { fault = Fault.collision; picked = 0; missing = 2 ^ 64 + 2 ^ 63 + 2 }))) 0
    [] [] (0 ∷ [])
    ≡ row "verdict,number" ++ row "collision,0" ++ row "missing,1" ++ row "missing,63" ++ row "missing,64"
    ++ row "pick,0"
unfolding word numbers_from digits_in lines plans_lines flatten keep collect has standing missing_lines
missing-file = refl
