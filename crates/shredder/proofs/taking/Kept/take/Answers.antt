use Rattle.std.proofs.Common.{◌∙◌, sym, ap, subst, arith}
use Rattle.json_tree.specs.Order.{NamesRise, member_of}
use Rattle.json_tree.proofs.NameSearch.{rise_of}
use Rattle.shredder.specs.Taken.{without}
use Rattle.shredder.proofs.Taken.{place_inside, value_at, value_nowhere, kept_but, kept_as}
use Rattle.shredder.proofs.taking.Kept.take.Goals as goal

pub index_mut-requires : goal.index_mut-requires
index_mut-requires c = omega (arith, c.args.self.now.members.ok.0, place_inside c.args.name.now c.args.self.now.members.items c.args.members.now c.as_slice-pairs.result.now c.in-Some.i c.requires c.as_slice-pairs.ensures.seen c.in-Some.ensures)

pub returns-in-Some-clause-value : goal.returns-in-Some-clause-value
returns-in-Some-clause-value c =
    let seen = c.as_slice-pairs.ensures.seen in
    value_at c.args.name.now c.as_slice-pairs.result.now c.in-Some.i c.index-pairs-i.result (subst NamesRise seen c.as_slice-pairs.ensures.valid.0) c.in-Some.ensures c.index-pairs-i.is
    ∙ ap (member_of c.args.name.now) (sym seen)

pub returns-in-Some-clause-kept : goal.returns-in-Some-clause-kept
returns-in-Some-clause-kept c =
    let seen = c.as_slice-pairs.ensures.seen in
    kept_but c.args.name.now c.args.self.now.members.items c.as_slice-pairs.result.now c.in-Some.i (rise_of c.as_slice-pairs.result.now (subst NamesRise seen c.as_slice-pairs.ensures.valid.0)) c.in-Some.ensures
    ∙ ap (without c.args.name.now c.args.self.now.members.items) (sym seen)

pub returns-in-None-clause-value : goal.returns-in-None-clause-value
returns-in-None-clause-value c = value_nowhere c.args.name.now c.as_slice-pairs.result.now c.in-None.ensures ∙ ap (member_of c.args.name.now) (sym c.as_slice-pairs.ensures.seen)

pub returns-in-None-clause-kept : goal.returns-in-None-clause-kept
returns-in-None-clause-kept c = kept_as c.args.name.now c.args.self.now.members.items c.as_slice-pairs.result.now c.in-None.ensures ∙ ap (without c.args.name.now c.args.self.now.members.items) (sym c.as_slice-pairs.ensures.seen)
