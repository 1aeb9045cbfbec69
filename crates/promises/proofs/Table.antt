-- What a host is told of a parameter's row is what the columns say.
use mathlib.Core.Path.{◌≡◌, refl, sym, ◌∙◌}
use mathlib.Core.Bool.{Bool, true, false}
use Prim.Native.Nat.{ℕ, ◌≤◌}
use native.Mathlib.Omega.{arith}
use lib.Dec.{ltb}
use borrow.Author.Tests.{ne_eqb, lt-ltb, ltb-true, ltb-false}
use Rattle.integers.specs.Listed.{listed, listed_same}
use Rattle.signals.specs.declared.Refusal.TheVariants as refusal
use Rattle.parameters.specs.RuleLaws.{row_beyond}
use Rattle.parameters.specs.Table.{rule_of}
use Rattle.parameters.specs.declared.Rule.TheVariants.{Unknown}
use Rattle.promises.specs.Table.{least, most, row_for, TableOfRules}

beyond : (n : ℕ) → 33 ≤ n → Unknown refusal.Number ≡ row_for n
unfolding row_for
beyond n h = rw (ne_eqb n 0 (λ e. omega arith), lt-ltb 32 n (omega arith)) refl

row_is : (n : ℕ) → rule_of n ≡ row_for n
unfolding rule_of row_for listed least most
row_is n = go (ltb n 33) refl
  where
    go : (t : Bool) → ltb n 33 ≡ t → rule_of n ≡ row_for n
    go true e = listed_same rule_of row_for 0 33 n refl (omega arith) (omega (arith, ltb-true n 33 e))
    go false e = let h = ltb-false n 33 e in sym (row_beyond n h) ∙ beyond n h

pub table_of_rules : TableOfRules
table_of_rules n r e = e ∙ row_is n
