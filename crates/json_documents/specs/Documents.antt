-- The documents of an input, line by line, and how the walk over them ends.
use Rattle.std.specs.Prelude.{◌≡◌, ℕ, ◌+◌, ◌*◌, ◌^◌, ◌≤◌, length, List, [], ◌∷◌, true, false, cond}
use Rattle.json_tree.specs.Json.{Json}
use Rattle.json_tree.specs.Text.{text_of}
use Rattle.json_lines.specs.Cut.{Lines, none, last, over, line, lines_of, is_long, is_blank, max_line}
use Rattle.exact_json.specs.Document.{IsLineValue}
use Rattle.exact_json.specs.Meaning.{Spells, IsFirstFault}
use Rattle.exact_json.specs.declared.fault.DocFault.{DocFault}
use Rattle.exact_json.specs.declared.fault.DocFault.TheVariants.{LineTooLong}

-- how the walk over an input ends: at its end, at the first line that has a fault, or where the input
-- is too long
pub data Ending : Type 0 where
  at_end : Ending
  at_line : ℕ → DocFault → Ending
  at_limit : Ending

-- what a line is
pub data Verdict : Type 0 where
  blank : Verdict
  document : Json → Verdict
  faulty : DocFault → Verdict

abbrev pub Judges : List ℕ → Verdict → Type 0
Judges l blank = is_blank l ≡ true
Judges l (document json) = (is_blank l ≡ false) × Spells l json
Judges l (faulty fault) = (is_blank l ≡ false) × IsFirstFault l fault

-- nothing more
abbrev pub Stops : Ending → List Json → Ending → Type 0
Stops here documents ending = (documents ≡ []) × (ending ≡ here)

-- what line n adds to the documents of the lines after it
abbrev pub Follows : Verdict → ℕ → (List Json → Ending → Type 0) → List Json → Ending → Type 0
Follows blank n Behind documents ending = Behind documents ending
Follows (document json) n Behind documents ending = (more : List Json) × (documents ≡ json ∷ more) × Behind more ending
Follows (faulty fault) n Behind documents ending = Stops (at_line n fault) documents ending

-- the documents of these lines, of which the first is line n + 1
abbrev pub Walks : Lines → ℕ → List Json → Ending → Type 0
Walks none n documents ending = Stops at_end documents ending
Walks (last l) n documents ending = (v : Verdict) × Judges l v × Follows v (n + 1) (Stops at_end) documents ending
Walks (over l) n documents ending = Stops (cond (is_long l) (at_line (n + 1) LineTooLong) at_limit) documents ending
Walks (line l ls) n documents ending = (v : Verdict) × Judges l v × Follows v (n + 1) (Walks ls (n + 1)) documents ending

-- the greatest number of bytes of an input
abbrev pub max_input : ℕ
max_input = 2 ^ 40

-- an input has these documents, and this is how it ends
abbrev pub HasDocuments : List ℕ → List Json → Ending → Type 0
HasDocuments input documents ending = Walks (lines_of max_input input) 0 documents ending

-- what every document of an input is: a value of a line, whose canonical text is at most ten times as long as
-- a line may be
pub record IsInputValue (json : Json) : Type 0 where
  pub is_line_value : IsLineValue json
  pub short : length (text_of json) ≤ 10 * max_line
