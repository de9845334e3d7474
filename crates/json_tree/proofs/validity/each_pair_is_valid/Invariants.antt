use Rattle.std.proofs.Common.{map, drop}
use Rattle.json_tree.specs.Json.{fields_of}
use Rattle.json_tree.specs.Valid.{HoldValid}
use Rattle.json_tree.specs.View.{seen}
use Rattle.json_tree.proofs.validity.each_pair_is_valid.Given as goal

abbrev pub invariant-loop-pair : goal.invariant-loop-pair
invariant-loop-pair l = HoldValid (fields_of (map seen (drop l.pair-index l.pairs))) → HoldValid (fields_of (map seen l.pairs))
