-- One member of a printed line.
use Rattle.std.specs.Prelude.{ℕ, List, [], ◌∷◌, Option, None, Some}
use Rattle.byte_parsing.specs.Bytes.{comma}
use Rattle.query_tree.specs.declared.step.Step.{Step}
use Rattle.path_query.specs.Answer.{member_text}

-- the member of a path that has a text to show, after a comma
abbrev pub after_comma : List Step → Option (List ℕ) → List ℕ
after_comma steps None = []
after_comma steps (Some text) = comma ∷ member_text steps text
