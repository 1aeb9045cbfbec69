-- `numerals::number` meets its contract.
use mathlib.Core.Path.{◌≡◌, refl, ◌∙◌}
use mathlib.Core.Bool.{false}
use mathlib.Core.List.{List, [], ◌∷◌}
use Prim.Native.Nat.{ℕ, ◌-◌, ◌<◌}
use lib.Dec.{eqb}
use native.Mathlib.Omega.{arith}
use lib.ListN.{length, get_or, drop, length-drop}
use lib.Seq.{take_all}
use borrow.Author.Rules.{rules}
use borrow.Author.Tests.{eq-eqb, ne_eqb}
use Rattle.numerals.specs.Numerals.{integer_of}
use Rattle.numerals.specs.Parsed.{number_of}
use Rattle.numerals.proofs.number.Goals as goal

nothing : (s : List ℕ) → length s < 1 → eqb (get_or s 0 0) 45 ≡ false
nothing [] h = refl
nothing (b ∷ s) h = absurd (omega arith)

pub returns-in-45 : goal.returns-in-45
unfolding number_of integer_of
returns-in-45 c =
    let s = c.args.s.now in
    simp (eq-eqb (get_or s 0 0) 45 (search rules))
    (c.signed.ensures ∙ rw (take_all (length s - 1) (drop 1 s) (omega (arith, length-drop 1 s))))

pub returns-in_default : goal.returns-in_default
unfolding number_of integer_of
returns-in_default c =
    let other : eqb (get_or c.args.s.now 0 0) 45 ≡ false = grind (arith, nothing, ne_eqb) in
    simp other c.signed-in_default.ensures
