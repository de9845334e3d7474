use Rattle.std.proofs.Common.{◌≡◌, rules}
use Rattle.std.proofs.lemmas.Fn.{always_returns_same}
use Rattle.json_tree.proofs.MembersOrder.{order}
use Rattle.json_tree.proofs.NameSearch.{got_none}
use Rattle.shredder.proofs.Taken.{found_at, nowhere_from}
use Rattle.shredder.proofs.taking.search.Goals as goal

pub returns-in-Ok : goal.returns-in-Ok
returns-in-Ok c =
    found_at c.args.name.now c.args.pairs.now c.in-Ok.i (c.in-Ok.ensures).bound
    ((c.in-Ok.ensures).position (λ p. order p.0 c.args.name.now) (always_returns_same _ (λ a r. r ≡ order a.0.now.0 c.args.name.now) _ (λ a r g q. search rules)))

pub returns-in-Err : goal.returns-in-Err
returns-in-Err c =
    nowhere_from c.args.name.now c.args.pairs.now (got_none c.args.name.now c.args.pairs.now _ c.requires.rise
    ((c.in-Err.ensures).position (λ p. order p.0 c.args.name.now) (always_returns_same _ (λ a r. r ≡ order a.0.now.0 c.args.name.now) _ (λ a r g q. search rules))))
