-- `fields::encode` meets its contract.
use Rattle.std.proofs.Common.{refl, arith}
use Rattle.fields.specs.FieldLaws.{start_of}
use Rattle.fields.specs.Fields.{fields_from}
use Rattle.fields.proofs.EncodingLaws.{room_for, encoded_next, encoded_whole}
use Rattle.fields.proofs.encode.Goals as goal

pub loop-place-init : goal.loop-place-init
unfolding fields_from start_of
loop-place-init c = record { few = omega arith; begins = refl; within = omega arith; same = refl; after = refl; bytes = refl }

pub encode_field-requires : goal.encode_field-requires
encode_field-requires c = let l = c.loop-place in
    room_for l.buffer l.start l.place c.length_of-size.result (omega (arith, l.invariant.same, c.requires))
    l.invariant.begins
    c.loop-place-test.true c.length_of-size.ensures

pub loop-place-preserved : goal.loop-place-preserved
loop-place-preserved c = let l = c.loop-place in
    encoded_next c.args.values c.args.buffer.now l.buffer c.encode_field.new.part l.start l.place
    c.tag_of.result c.length_of-size.result c.well_formed.0.1.0.1
    c.requires l.invariant c.loop-place-test.true
    c.tag_of.ensures c.length_of-size.ensures
    c.buffer-1.given.1 c.encode_field.ensures

pub returns : goal.returns
returns c = let l = c.loop-place in
    encoded_whole c.args.values c.args.buffer.now l.buffer l.start l.place c.well_formed.0.1.0.1 l.invariant
    c.loop-place-test.false
