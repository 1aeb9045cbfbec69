-- `formatting::Text::push_each` meets its contract.
use Rattle.std.proofs.Common.{refl, arith}
use Rattle.formatting.specs.Laws.{appending_turn, appending_ends}
use Rattle.formatting.proofs.Text.push_each.Goals as goal

pub loop-byte-preserved : goal.loop-byte-preserved
loop-byte-preserved g c =
    appending_turn
    (λ l. l) refl (λ b bs. refl) c.args.bytes.now c.loop-byte.byte-index c.args.self.now c.loop-byte.self c.loop-byte.invariant
    c.push.new.self (omega arith) c.push.ensures

pub returns : goal.returns
returns g c =
    appending_ends
    (λ l. l) refl (λ b bs. refl) c.args.bytes.now c.loop-byte.byte-index c.args.self.now c.loop-byte.self c.loop-byte.invariant
    (omega arith)
