use Rattle.std.proofs.Common.{◌≡◌, ◌++◌, drop, flat_map}
use Rattle.query_tree.specs.PathText.{step_text, path_text}
use Rattle.query_tree.proofs.path.text_of.Given as goal

abbrev pub invariant-loop-step : goal.invariant-loop-step
invariant-loop-step l = l.text.items ++ flat_map step_text (drop l.step-index l.steps) ≡ path_text l.steps
