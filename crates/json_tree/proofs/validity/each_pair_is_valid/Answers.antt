use Rattle.std.proofs.Common.{subst}
use Rattle.std.specs.Str.{IsUtf8}
use Rattle.std.proofs.lemmas.Str.{is_utf8-from_IsUtf8}
use Rattle.json_tree.proofs.Views.{member_valid}
use Rattle.json_tree.proofs.validity.each_pair_is_valid.Goals as goal

pub loop-pair-preserved : goal.loop-pair-preserved
loop-pair-preserved c = λ rest.
    c.loop-pair.invariant (member_valid c.args.pairs.now c.loop-pair.pair-index c.pair-item.result c.loop-pair-test.true c.pair-item.is (is_utf8-from_IsUtf8 c.pair-item.result.0 (subst IsUtf8 c.as_str-name.ensures c.as_str-name.utf8)) c.tree_is_valid.ensures rest)
