-- The canonical text of a path.
use Rattle.std.specs.Prelude.{ℕ, List, [], ◌∷◌, ◌++◌, Bool, true, false, if◌then◌else◌, decimal}
use Rattle.std.specs.List.{flat_map, list_any}
use Rattle.byte_parsing.specs.Bytes.{dollar, star, dot, open_bracket, close_bracket}
use Rattle.byte_parsing.specs.Words.{is_name}
use Rattle.json_tree.specs.Text.{quoted}
use Rattle.query_tree.specs.declared.step.Step.{Step}
use Rattle.query_tree.specs.declared.step.Step.TheVariants.{Field, Index, Star}

-- `.name`, or else the name as a string in brackets; an index; a star
abbrev pub step_text : Step → List ℕ
step_text (Field name) = if is_name name then dot ∷ name else open_bracket ∷ (quoted name ++ close_bracket ∷ [])
step_text (Index n) = open_bracket ∷ (decimal n ++ close_bracket ∷ [])
step_text Star = open_bracket ∷ (star ∷ (close_bracket ∷ []))

abbrev pub path_text : List Step → List ℕ
path_text steps = dollar ∷ flat_map step_text steps

abbrev pub is_star : Step → Bool
is_star (Field name) = false
is_star (Index n) = false
is_star Star = true

-- a path with a star may have several matches in a row, any other has one at most
abbrev pub has_star : List Step → Bool
has_star steps = list_any is_star steps
