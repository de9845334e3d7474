use Rattle.std.proofs.Common.{refl}
use Rattle.row_assembler.proofs.Answered.{feeds_seen, if_ok}
use Rattle.row_assembler.proofs.assembler.Assembler.feed.Goals as goal

pub returns-in-Some-clause-ok : goal.returns-in-Some-clause-ok
returns-in-Some-clause-ok c =
    if_ok c.feed_at.result _ _ (λ set. feeds_seen _ c.args.self.now _ c.self.inside.cursors c.args.leaf c.in-Some.place c.index.result.now c.deref_mut.result.now c.feed_at.new.cursors c.args.more.now c.self.view_is c.requires.read c.index.ensures c.in-Some.is c.self.invariant.inside c.self.invariant.apart c.deref_mut.ensures.value refl set refl) c.feed_at.ensures.ok
