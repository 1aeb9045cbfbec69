-- `fields::encode` meets its contract.
use Rattle.fields.proofs.EncodingLaws.{Encoded}
use Rattle.fields.proofs.encode.Given as goal

abbrev pub invariant-loop-place : goal.invariant-loop-place
invariant-loop-place l = Encoded l.value-items l.initial.buffer l.buffer l.start l.place
