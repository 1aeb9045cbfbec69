-- `settings::Settings::value_at` meets its contract.
use native.Mathlib.Omega.{arith}
use borrow.Author.Tests.{lt-ltb}
use mathlib.Core.Path.{ap, ◌∙◌}
use Prim.Native.Nat.{◌+◌}
use mir.Facts.{to_z-of_z}
use mir.Syntax.{w16, w64}
use mir.Val.{of_z}
use Rattle.integers.specs.Machine.{back}
use Rattle.integers.specs.Operations.{number}
use Rattle.integers.specs.TwosComplement.{as_word_is}
use Rattle.parameters.specs.LegalLaws.{value_most}
use Rattle.parameters.specs.Table.{value}
use Rattle.settings.specs.Settings.{value_at}
use Rattle.settings.proofs.Settings.value_at.Goals as goal

pub overflow_cast-value : goal.overflow_cast-value
overflow_cast-value c =
    let p = c.args.self.parameters in
    let n = c.args.place + 1 in
    simp (back w64 c.get-value.result c.get-value.type_inv)
    (rw c.get-value.ensures (record { sfits = omega (arith, number (value p n), value_most p c.requires n (omega arith) (omega arith)) }))

pub returns-in-0-to-22 : goal.returns-in-0-to-22
unfolding value_at
returns-in-0-to-22 c =
    c.cast_unsigned.ensures ∙ ap (of_z w16) (to_z-of_z (overflow_cast-value c.before)) ∙
    simp (back w64 c.get-value.result c.get-value.type_inv) (simp (c.get-value.ensures, as_word_is, lt-ltb c.args.place 23 (omega arith)))
