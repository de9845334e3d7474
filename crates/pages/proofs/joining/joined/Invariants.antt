use Rattle.std.proofs.Common.{◌≡◌, ◌++◌, drop}
use Rattle.pages.specs.Bodies.{joined}
use Rattle.pages.specs.Shown.{shown}
use Rattle.pages.proofs.joining.joined.Given as goal

abbrev pub invariant-loop-i : goal.invariant-loop-i
invariant-loop-i l =
    l.entries.items ++ joined l.maximum (drop l.i (shown l.reps)) (drop l.i (shown l.defs)) l.values.rest.items
    ≡ joined l.maximum (shown l.reps) (shown l.defs) l.fn.cells
