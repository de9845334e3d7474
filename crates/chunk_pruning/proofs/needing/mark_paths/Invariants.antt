use Rattle.std.proofs.Common.{List, Bool, map, drop}
use Rattle.query_tree.specs.View.{steps_of}
use Rattle.shred_schema.specs.Views.{group_of}
use Rattle.chunk_pruning.specs.Marks.{IsMarked}
use Rattle.chunk_pruning.specs.Needs.{is_any_needed}
use Rattle.chunk_pruning.proofs.needing.mark_paths.Given as goal

abbrev pub invariant-loop-path : goal.invariant-loop-path
invariant-loop-path l =
    (new : List Bool) → IsMarked l.mask (is_any_needed (map steps_of (drop l.path-index l.paths)) (group_of l.node)) new → IsMarked l.fn.mask (is_any_needed (map steps_of l.paths) (group_of l.node)) new
