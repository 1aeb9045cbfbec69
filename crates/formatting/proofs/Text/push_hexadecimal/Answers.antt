-- `formatting::Text::push_hexadecimal` meets its contract.
use Rattle.std.proofs.Common.{refl, arith}
use Rattle.numerals.specs.Numerals.{last_digits, hexadecimal}
use Rattle.formatting.specs.Laws.{appending_turn, appending_ends}
use Rattle.formatting.proofs.Text.push_hexadecimal.Goals as goal

pub loop-byte-preserved : goal.loop-byte-preserved
unfolding hexadecimal last_digits
loop-byte-preserved g c =
    appending_turn
    hexadecimal refl (λ b bs. refl) c.args.bytes.now c.loop-byte.byte-index c.args.self.now c.loop-byte.self c.loop-byte.invariant
    c.push_digits.new.self (omega arith) c.push_digits.ensures

pub returns : goal.returns
unfolding hexadecimal last_digits
returns g c =
    appending_ends
    hexadecimal refl (λ b bs. refl) c.args.bytes.now c.loop-byte.byte-index c.args.self.now c.loop-byte.self c.loop-byte.invariant
    (omega arith)
