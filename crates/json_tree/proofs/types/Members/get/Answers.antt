use Rattle.std.proofs.Common.{◌≡◌, ◌∙◌, sym, ap, subst, rules}
use Rattle.std.proofs.lemmas.Fn.{always_returns_same}
use Rattle.json_tree.specs.Order.{NamesRise, member_of}
use Rattle.json_tree.proofs.MembersOrder.{order}
use Rattle.json_tree.proofs.NameSearch.{got, got_none}
use Rattle.json_tree.proofs.types.Members.get.Goals as goal

pub returns-in-Ok : goal.returns-in-Ok
returns-in-Ok c =
    let seen = c.as_slice-pairs.ensures.seen in
    got c.args.name.now c.as_slice-pairs.result.now c.in-Ok.i c.index-pairs-i.result (subst NamesRise seen c.as_slice-pairs.ensures.valid.0) (c.in-Ok.ensures).bound c.index-pairs-i.is
    ((c.in-Ok.ensures).position (λ p. order p.0 c.args.name.now) (always_returns_same _ (λ a r. r ≡ order a.0.now.0 c.args.name.now) _ (λ a r g q. search rules)))
    ∙ ap (member_of c.args.name.now) (sym seen)

pub returns-in-Err : goal.returns-in-Err
returns-in-Err c =
    let seen = c.as_slice-pairs.ensures.seen in
    got_none c.args.name.now c.as_slice-pairs.result.now _ (subst NamesRise seen c.as_slice-pairs.ensures.valid.0)
    ((c.in-Err.ensures).position (λ p. order p.0 c.args.name.now) (always_returns_same _ (λ a r. r ≡ order a.0.now.0 c.args.name.now) _ (λ a r g q. search rules)))
    ∙ ap (member_of c.args.name.now) (sym seen)
