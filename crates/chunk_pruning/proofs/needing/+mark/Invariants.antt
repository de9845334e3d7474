use Rattle.std.proofs.Common.{◌+◌, ◌*◌, length}
use Rattle.chunk_pruning.proofs.needing.+mark.Given as goal

abbrev pub decreases-mark_path : goal.decreases-mark_path
decreases-mark_path l = 3 * length l.steps.now

abbrev pub decreases-mark_step : goal.decreases-mark_step
decreases-mark_step l = 3 * length l.others.now + 2

abbrev pub decreases-mark_object : goal.decreases-mark_object
decreases-mark_object l = 3 * length l.others.now + 1

abbrev pub decreases-mark_list : goal.decreases-mark_list
decreases-mark_list l = 3 * length l.others.now + 1
