-- What the bytes not yet passed append to the text as it is now is what all of them append to it as it was.
use Rattle.std.proofs.Common.{◌≡◌, drop}
use Rattle.formatting.specs.Buffer.{append_all}
use Rattle.formatting.proofs.Text.push_each.Given as goal

abbrev pub invariant-loop-byte : goal.invariant-loop-byte
invariant-loop-byte g l = append_all l.self (drop l.byte-index l.bytes) ≡ append_all l.fn.self l.fn.bytes
