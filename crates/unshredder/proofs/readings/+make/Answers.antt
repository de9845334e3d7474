use Rattle.std.proofs.Common.{◌≡◌, ◌∙◌, ◌+◌, sym, ap, map, arith}
use Rattle.shred_schema.specs.Groups.{object_of, groups_from}
use Rattle.shred_schema.specs.Views.{kind_of, named}
use Rattle.shred_schema.proofs.Viewed.{kind_is_object}
use Rattle.unshredder.proofs.NodesRead.{made_at, room_at, made_all}
use Rattle.unshredder.proofs.readings.+make.Goals as goal

pub inside_of-returns-in-Fields : goal.inside_of-returns-in-Fields
inside_of-returns-in-Fields t c =
    let kind : kind_of c.args.typed.now ≡ object_of (groups_from (map named c.as_slice.result.now)) =
    ap kind_of c.in-Fields.is ∙ kind_is_object c.in-Fields.fields ∙ ap (λ fs. object_of (groups_from (map named fs))) (sym c.as_slice.ensures) in
    rw kind c.readings_of.ensures

pub readings_of-put_reading-requires : goal.readings_of-put_reading-requires
readings_of-put_reading-requires t c =
    let room = room_at _ _ c.args.fields.now c.loop-k.k c.index-fields-k.result _ _ _ c.loop-k.invariant (omega (arith, c.loop-k-test.true)) in
    (omega (arith, room.1), omega (arith, c.requires, room.0))

pub readings_of-overflow_add-first : goal.readings_of-overflow_add-first
readings_of-overflow_add-first t c =
    let room = room_at _ _ c.args.fields.now c.loop-k.k c.index-fields-k.result _ _ _ c.loop-k.invariant (omega (arith, c.loop-k-test.true)) in
    omega (arith, c.requires, room.0, c.width-first.ensures)

pub readings_of-loop-k-preserved : goal.readings_of-loop-k-preserved
readings_of-loop-k-preserved t c = made_at _ _ _ c.args.fields.now c.loop-k.k c.index-fields-k.result _ _ _ _ c.loop-k.invariant (omega (arith, c.loop-k-test.true)) c.in_ok-put_reading.ensures (ap (λ n. c.loop-k.first + n) c.width-first.ensures)

pub readings_of-returns : goal.readings_of-returns
readings_of-returns t c = made_all _ _ c.args.fields.now c.loop-k.k _ _ _ c.loop-k.invariant (omega (arith, c.loop-k-test.false))
