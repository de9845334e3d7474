use Rattle.std.proofs.Common.{take, map}
use Rattle.query_tree.specs.View.{steps_of}
use Rattle.command_parsing.specs.Queries.{ArePaths}
use Rattle.command_parsing.proofs.query_texts.asked_paths.Given as goal

abbrev pub invariant-loop-text : goal.invariant-loop-text
invariant-loop-text l = ArePaths (map (λ t. t.now) (take l.text-index l.texts)) (map steps_of l.paths)
