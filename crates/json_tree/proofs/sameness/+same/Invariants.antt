use Rattle.std.proofs.Common.{◌≡◌, map, take}
use Rattle.json_tree.specs.View.{view, seen}
use Rattle.json_tree.proofs.sameness.+same.Given as goal

abbrev pub invariant-same_items-loop-i : goal.invariant-same_items-loop-i
invariant-same_items-loop-i l = map view (take l.i l.a) ≡ map view (take l.i l.b)

abbrev pub invariant-same_members-loop-i : goal.invariant-same_members-loop-i
invariant-same_members-loop-i l = map seen (take l.i l.a) ≡ map seen (take l.i l.b)
