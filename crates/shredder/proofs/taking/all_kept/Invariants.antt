use Rattle.std.proofs.Common.{◌≡◌, ◌++◌, map, drop}
use Rattle.json_tree.specs.Json.{fields_of}
use Rattle.json_tree.specs.View.{seen}
use Rattle.shred_schema.specs.Groups.{no_groups}
use Rattle.shredder.specs.Shredded.{unnamed}
use Rattle.shredder.proofs.taking.all_kept.Given as goal

abbrev pub invariant-loop-pair : goal.invariant-loop-pair
invariant-loop-pair l = l.kept.items ++ unnamed no_groups (fields_of (map seen (drop l._pair-index l.pairs))) ≡ unnamed no_groups (fields_of (map seen l.pairs))
