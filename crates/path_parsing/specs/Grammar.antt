-- How a path is written, as derivation trees:
--
--     path = "$" *step
--     step = "." name / "[" string "]" / "[" index "]" / "[" "*" "]"
--
-- A name is a letter or `_`, then letters, digits and `_`. A string is a string of JSON in which no surrogate
-- is without its partner. An index is 0, or digits of which the first isn't 0. There are no spaces.
use Rattle.std.specs.Prelude.{◌≡◌, ℕ, ◌≤◌, List, [], ◌∷◌, ◌++◌, true, false, map, length}
use Rattle.exact_num.specs.Spelling.{digits_value}
use Rattle.json_strings.specs.Pieces.{Piece, pieces_spelled}
use Rattle.json_strings.specs.Meaning.{IsString, text_of, lone_of}
use Rattle.byte_parsing.specs.Bytes.{quote, dollar, star, dot, open_bracket, close_bracket}
use Rattle.byte_parsing.specs.Words.{IsWhole, is_name, EndsName}
use Rattle.query_tree.specs.declared.step.Step.{Step}
use Rattle.query_tree.specs.declared.step.Step.TheVariants.{Field, Index, Star}
use Rattle.path_parsing.specs.Limits.{most_steps, most_bytes, most_digits}

-- one way to write a step
pub data StepSyntax : Type 0 where
  -- step = "." name
  dotted : List ℕ → StepSyntax
  -- step = "[" string "]"
  quoted : List Piece → StepSyntax
  -- step = "[" index "]"
  indexed : List ℕ → StepSyntax
  -- step = "[" "*" "]"
  starred : StepSyntax

-- path = "$" *step
abbrev pub PathSyntax : Type 0
PathSyntax = List StepSyntax

-- The bytes, with `after` after them.

abbrev pub step_bytes : StepSyntax → List ℕ → List ℕ
step_bytes (dotted name) after = dot ∷ (name ++ after)
step_bytes (quoted ps) after = open_bracket ∷ (quote ∷ pieces_spelled ps (close_bracket ∷ after))
step_bytes (indexed digits) after = open_bracket ∷ (digits ++ close_bracket ∷ after)
step_bytes starred after = open_bracket ∷ (star ∷ (close_bracket ∷ after))

abbrev pub steps_bytes : PathSyntax → List ℕ → List ℕ
steps_bytes [] after = after
steps_bytes (s ∷ ss) after = step_bytes s (steps_bytes ss after)

abbrev pub path_bytes : PathSyntax → List ℕ → List ℕ
path_bytes ss after = dollar ∷ steps_bytes ss after

-- What the grammar asks.

abbrev pub IsWellStep : StepSyntax → List ℕ → Type 0
IsWellStep (dotted name) after = (is_name name ≡ true) × EndsName after
IsWellStep (quoted ps) after = IsString ps × (lone_of ps ≡ false)
IsWellStep (indexed digits) after = IsWhole digits × (length digits ≤ most_digits)
IsWellStep starred after = Unit {0}

abbrev pub AreWellSteps : PathSyntax → List ℕ → Type 0
AreWellSteps [] after = Unit {0}
AreWellSteps (s ∷ ss) after = IsWellStep s (steps_bytes ss after) × AreWellSteps ss after

-- a path with `after` after it, within the limits
pub record IsPathBefore (ss : PathSyntax) (after : List ℕ) : Type 0 where
  pub well : AreWellSteps ss after
  pub few : length ss ≤ most_steps
  pub short : length (path_bytes ss []) ≤ most_bytes

-- What it means.

abbrev pub step_of : StepSyntax → Step
step_of (dotted name) = Field name
step_of (quoted ps) = Field (text_of ps)
step_of (indexed digits) = Index (digits_value 0 digits)
step_of starred = Star

abbrev pub path_of : PathSyntax → List Step
path_of ss = map step_of ss

-- a text is a path of these steps
pub record IsPath (text : List ℕ) (steps : List Step) : Type 0 where
  pub written : PathSyntax
  pub bytes : text ≡ path_bytes written []
  pub is_path : IsPathBefore written []
  pub means : steps ≡ path_of written
