-- What a query answers: the printed line of a row, and the lines of all rows.
use Rattle.std.specs.Prelude.{ℕ, List, [], ◌∷◌, ◌++◌, Bool, true, if◌then◌else◌, Option, None, Some}
use Rattle.byte_parsing.specs.Bytes.{line_feed, comma, colon, open_brace, close_brace}
use Rattle.json_tree.specs.Json.{Json, array, parts_of}
use Rattle.json_tree.specs.Text.{quoted, text_of}
use Rattle.query_tree.specs.Asked.{Asked}
use Rattle.query_tree.specs.Formula.{Formula}
use Rattle.query_tree.specs.PathText.{path_text, has_star}
use Rattle.query_tree.specs.declared.step.Step.{Step}
use Rattle.path_query.specs.Matches.{at}
use Rattle.path_query.specs.Truth.{holds}

-- the text of the first match, if there is one
abbrev pub first_text : List Json → Option (List ℕ)
first_text [] = None
first_text (json ∷ more) = Some (text_of json)

-- what a path has to show: with a star the array of its matches, else its match, or nothing
abbrev pub value_text : List Step → List Json → Option (List ℕ)
value_text steps found = if has_star steps then Some (text_of (array (parts_of found))) else first_text found

-- a member of a printed line: the path's text as its name, and what it has to show
abbrev pub member_text : List Step → List ℕ → List ℕ
member_text steps text = quoted (path_text steps) ++ colon ∷ text

-- with that member, if there is one, before others
abbrev pub with_member : List Step → Option (List ℕ) → List (List ℕ) → List (List ℕ)
with_member steps None others = others
with_member steps (Some text) others = member_text steps text ∷ others

-- the members of a printed line: of each path that has something to show, in the order of the paths
abbrev pub members : List (List Step) → Option Json → List (List ℕ)
members [] row = []
members (steps ∷ paths) row = with_member steps (value_text steps (at steps row)) (members paths row)

-- with a comma before each
abbrev pub after_commas : List (List ℕ) → List ℕ
after_commas [] = []
after_commas (text ∷ texts) = comma ∷ (text ++ after_commas texts)

-- with a comma between two of them
abbrev pub list_text : List (List ℕ) → List ℕ
list_text [] = []
list_text (text ∷ texts) = text ++ after_commas texts

-- the line of a row: an object of what the paths have to show, and a line feed
abbrev pub line_of : List (List Step) → Option Json → List ℕ
line_of paths row = open_brace ∷ (list_text (members paths row) ++ close_brace ∷ (line_feed ∷ []))

-- whether a row is answered: without a filter, each is
abbrev pub passes : Option Formula → Option Json → Bool
passes None row = true
passes (Some formula) row = holds formula row

-- what is printed for a row: its line, or nothing
unfoldable pub row_text : Asked → Option Json → List ℕ
row_text asked row = if passes asked.filter row then line_of asked.paths row else []

-- the lines of the rows on which the filter holds, in order
abbrev pub answer_of : Asked → List (Option Json) → List ℕ
answer_of asked [] = []
answer_of asked (row ∷ rows) = row_text asked row ++ answer_of asked rows
