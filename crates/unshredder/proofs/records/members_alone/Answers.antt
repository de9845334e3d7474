use Rattle.std.proofs.Common.{◌+◌, sym, subst, map, rules}
use Rattle.variant_meta.specs.MetaRefs.{names_of}
use Rattle.shred_schema.specs.Groups.{groups_from}
use Rattle.shred_schema.specs.Recs.{recs_from}
use Rattle.shred_schema.specs.Views.{rec_of, named}
use Rattle.unshredder.specs.Readings.{AreReadings}
use Rattle.unshredder.proofs.Apart.{not_repeated_alone}
use Rattle.unshredder.proofs.records.members_alone.Goals as goal

pub unreachable-requires : goal.unreachable-requires
unreachable-requires c =
    let some = c.requires.readings in
    let twice = c.in-Err.ensures.repeated.0 (search rules) in
    not_repeated_alone some.mask (names_of c.args.meta.now) (groups_from (map named c.args.alone.fields.now)) some.leaf (c.args.above + 1) (recs_from (map rec_of c.args.alone.records.now)) _ _ c.requires.object.differ c.in_ok-room.ensures.items
    (c.in_ok-pairs.ensures some.mask some.leaf (subst (λ rs. AreReadings some.mask (groups_from (map named c.args.alone.fields.now)) 0 some.leaf rs) (sym c.as_slice-readings.ensures) some.holds)) twice
