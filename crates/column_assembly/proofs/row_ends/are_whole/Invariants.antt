use Rattle.std.proofs.Common.{◌≡◌, drop}
use Rattle.std.specs.List.{list_all}
use Rattle.column_assembly.specs.Items.{is_whole}
use Rattle.column_assembly.proofs.row_ends.are_whole.Given as goal

abbrev pub invariant-loop-cursor : goal.invariant-loop-cursor
invariant-loop-cursor l = list_all (is_whole l.ended) (drop l.cursor-index l.cursors) ≡ list_all (is_whole l.ended) l.cursors
