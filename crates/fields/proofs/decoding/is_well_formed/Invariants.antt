-- `fields::decoding::is_well_formed` meets its contract.
use Rattle.fields.proofs.DecodingLaws.{WellFormed}
use Rattle.fields.proofs.decoding.is_well_formed.Given as goal

abbrev pub invariant-loop-place : goal.invariant-loop-place
invariant-loop-place l = WellFormed l.image l.start l.place
