-- `fields::decoding::values_of` meets its contract.
use Rattle.fields.proofs.DecodingLaws.{Decoded}
use Rattle.fields.proofs.decoding.values_of.Given as goal

abbrev pub invariant-loop-place : goal.invariant-loop-place
invariant-loop-place l = Decoded l.image l.value-items l.start l.place
