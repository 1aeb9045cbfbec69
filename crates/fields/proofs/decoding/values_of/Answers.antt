-- `fields::decoding::values_of` meets its contract.
use Rattle.std.proofs.Common.{refl, arith}
use Rattle.fields.specs.FieldLaws.{start_of}
use Rattle.fields.proofs.EncodingLaws.{room_for}
use Rattle.fields.proofs.DecodingLaws.{decoded_next, decoded_all}
use Rattle.fields.proofs.decoding.values_of.Goals as goal

pub loop-place-init : goal.loop-place-init
unfolding start_of
loop-place-init c = record { begun = record { few = omega arith; begins = refl; within = omega arith }; size = refl; decoded = refl }

pub value_in-requires : goal.value_in-requires
value_in-requires c = let l = c.loop-place in
    room_for c.args.image.now l.start l.place c.length_of-size.result
    (omega (arith, c.requires)) l.invariant.begun.begins c.loop-place-test.true
    c.length_of-size.ensures

pub loop-place-preserved : goal.loop-place-preserved
loop-place-preserved c = let l = c.loop-place in
    decoded_next c.args.image.now l.value-items l.start l.place
    c.length_of-size.result c.value_in.result l.invariant c.loop-place-test.true
    c.length_of-size.ensures c.value_in.ensures

pub returns : goal.returns
returns c =
    let l = c.loop-place in
    decoded_all c.args.image.now l.value-items l.start l.place l.invariant c.loop-place-test.false
