use Rattle.assembly_tests.proofs.feeding.feed_leaf.Goals as goal

pub loop-entry-preserved-in-Single : goal.loop-entry-preserved-in-Single
loop-entry-preserved-in-Single c = c.feed.ensures.column _ _ _ c.loop-entry.invariant

pub returns : goal.returns
returns c = c.feed-2.ensures.column _ _ _ c.loop-entry.invariant
