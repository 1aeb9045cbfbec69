-- `fields::decoding::is_well_formed` meets its contract.
use Rattle.std.proofs.Common.{sym, refl, ◌∙◌, arith}
use Rattle.fields.specs.FieldLaws.{start_of}
use Rattle.fields.proofs.EncodingLaws.{room_for}
use Rattle.fields.proofs.DecodingLaws.{well_formed_next, well_formed_wrong, well_formed_all}
use Rattle.fields.proofs.decoding.is_well_formed.Goals as goal

pub loop-place-init : goal.loop-place-init
unfolding start_of
loop-place-init c = record { begun = record { few = omega arith; begins = refl; within = omega arith }; formed = refl }

pub has_header-requires : goal.has_header-requires
has_header-requires c = let l = c.loop-place in
    let r = room_for c.args.image.now l.start l.place
    c.length_of-size.result (omega (arith, c.requires))
    l.invariant.begun.begins c.loop-place-test.true c.length_of-size.ensures in
    omega (arith, r.0)

pub returns-then-not-has_header : goal.returns-then-not-has_header
returns-then-not-has_header c = let l = c.loop-place in
    sym (well_formed_wrong c.args.image.now l.start l.place
    c.tag_of.result c.length_of-size.result l.invariant
    c.loop-place-test.true c.tag_of.ensures
    c.length_of-size.ensures (sym c.has_header.ensures ∙ c.if-not-has_header.true))

pub loop-place-preserved : goal.loop-place-preserved
loop-place-preserved c = let l = c.loop-place in
    well_formed_next c.args.image.now l.start l.place
    c.tag_of.result c.length_of-size.result l.invariant
    c.loop-place-test.true c.tag_of.ensures
    c.length_of-size.ensures (sym c.has_header.ensures ∙ c.if-not-has_header.false)

pub returns : goal.returns
returns c =
    let l = c.loop-place in
    well_formed_all c.args.image.now l.start l.place l.invariant c.loop-place-test.false
