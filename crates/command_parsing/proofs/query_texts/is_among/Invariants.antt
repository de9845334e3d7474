use Rattle.std.proofs.Common.{◌≡◌, drop, map}
use Rattle.std.specs.List.{list_any}
use Rattle.std.specs.Str.{bytes_eq}
use Rattle.query_tree.specs.PathText.{path_text}
use Rattle.query_tree.specs.View.{steps_of}
use Rattle.command_parsing.proofs.query_texts.is_among.Given as goal

abbrev pub invariant-loop-path : goal.invariant-loop-path
invariant-loop-path l = list_any (λ other. bytes_eq other l.text) (map path_text (map steps_of (drop l.path-index l.paths))) ≡ list_any (λ other. bytes_eq other l.text) (map path_text (map steps_of l.paths))
