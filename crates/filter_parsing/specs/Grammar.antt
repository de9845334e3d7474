-- How a filter is written, as derivation trees:
--
--     filter  = conj *( "or" conj )
--     conj    = unit *( "and" unit )
--     unit    = "not" unit / "(" filter ")" / path test
--     test    = "exists" / "missing" / relation literal
--     literal = "null" / "true" / "false" / number / string
--
-- Between two of these parts stand any number of spaces. Numbers and strings are those of JSON; a number is one
-- that is represented exactly, and of a string no surrogate is without its partner. A word ends where no
-- letter, digit or `_` comes directly after it.
use Rattle.std.specs.Prelude.{◌≡◌, ℕ, ◌+◌, ◌≤◌, max, List, [], ◌∷◌, ◌++◌, Bool, false, if◌then◌else◌, codes, length}
use Rattle.byte_parsing.specs.Bytes.{quote, open_parenthesis, close_parenthesis}
use Rattle.byte_parsing.specs.Words.{AreSpaces, EndsName}
use Rattle.exact_num.specs.Decimal.{Decimal, IsNumber}
use Rattle.exact_num.specs.Reading.{IsRead}
use Rattle.json_strings.specs.Pieces.{Piece, pieces_spelled}
use Rattle.json_strings.specs.Meaning.{IsString, text_of, lone_of}
use Rattle.json_tree.specs.Json as json
use Rattle.json_tree.specs.Json.{Json}
use Rattle.query_tree.specs.Formula.{Claim, exists, missing, stands, Formula, term, conjunction, disjunction, negation}
use Rattle.query_tree.specs.declared.filter.Relation.{Relation}
use Rattle.query_tree.specs.declared.filter.Relation.TheVariants.{Equal, NotEqual, Less, AtMost, Greater, AtLeast}
use Rattle.path_parsing.specs.Grammar.{PathSyntax, path_bytes, path_of, IsPathBefore}
use Rattle.filter_parsing.specs.Limits.{most_bytes, most_terms, most_nesting}

-- one way to write a literal
pub data LiteralSyntax : Type 0 where
  -- literal = "null"
  null_word : LiteralSyntax
  -- literal = "true" / "false"
  truth_word : Bool → LiteralSyntax
  -- literal = number: its text, and the number
  digits : List ℕ → Decimal → LiteralSyntax
  -- literal = string
  string : List Piece → LiteralSyntax

-- one way to write a test
pub data TestSyntax : Type 0 where
  -- test = "exists"
  exists_word : TestSyntax
  -- test = "missing"
  missing_word : TestSyntax
  -- test = relation literal, with spaces between them
  related : Relation → List ℕ → LiteralSyntax → TestSyntax

-- one way to write a filter
pub data FilterSyntax : Type 0 where
  -- unit = path test, with spaces between them
  tested : PathSyntax → List ℕ → TestSyntax → FilterSyntax
  -- unit = "not" unit, with spaces between them
  denied : List ℕ → FilterSyntax → FilterSyntax
  -- unit = "(" filter ")", with spaces inside the brackets
  bracketed : List ℕ → FilterSyntax → List ℕ → FilterSyntax
  -- conj = conj "and" unit, with spaces round the word
  both : FilterSyntax → List ℕ → List ℕ → FilterSyntax → FilterSyntax
  -- filter = filter "or" conj, with spaces round the word
  either : FilterSyntax → List ℕ → List ℕ → FilterSyntax → FilterSyntax

-- The bytes, with `after` after them.

abbrev pub relation_text : Relation → List ℕ
relation_text Equal = codes "="
relation_text NotEqual = codes "!="
relation_text Less = codes "<"
relation_text AtMost = codes "<="
relation_text Greater = codes ">"
relation_text AtLeast = codes ">="

abbrev pub literal_bytes : LiteralSyntax → List ℕ → List ℕ
literal_bytes null_word after = codes "null" ++ after
literal_bytes (truth_word b) after = (if b then codes "true" else codes "false") ++ after
literal_bytes (digits s d) after = s ++ after
literal_bytes (string ps) after = quote ∷ pieces_spelled ps after

abbrev pub test_bytes : TestSyntax → List ℕ → List ℕ
test_bytes exists_word after = codes "exists" ++ after
test_bytes missing_word after = codes "missing" ++ after
test_bytes (related relation gap literal) after = relation_text relation ++ (gap ++ literal_bytes literal after)

abbrev pub filter_bytes : FilterSyntax → List ℕ → List ℕ
filter_bytes (tested path gap test) after = path_bytes path (gap ++ test_bytes test after)
filter_bytes (denied gap w) after = codes "not" ++ (gap ++ filter_bytes w after)
filter_bytes (bracketed before w gap) after = open_parenthesis ∷ (before ++ filter_bytes w (gap ++ close_parenthesis ∷ after))
filter_bytes (both v before gap w) after = filter_bytes v (before ++ (codes "and" ++ (gap ++ filter_bytes w after)))
filter_bytes (either v before gap w) after = filter_bytes v (before ++ (codes "or" ++ (gap ++ filter_bytes w after)))

-- What the grammar asks, with `after` after the bytes.

abbrev pub IsWellLiteral : LiteralSyntax → List ℕ → Type 0
IsWellLiteral null_word after = EndsName after
IsWellLiteral (truth_word b) after = EndsName after
IsWellLiteral (digits s d) after = IsNumber d × IsRead s d
IsWellLiteral (string ps) after = IsString ps × (lone_of ps ≡ false)

abbrev pub IsWellTest : TestSyntax → List ℕ → Type 0
IsWellTest exists_word after = EndsName after
IsWellTest missing_word after = EndsName after
IsWellTest (related relation gap literal) after = AreSpaces gap × IsWellLiteral literal after

-- how loosely the parts are bound: a unit, a conj, a filter
abbrev pub looseness : FilterSyntax → ℕ
looseness (tested path gap test) = 0
looseness (denied gap w) = 0
looseness (bracketed before w gap) = 0
looseness (both v before gap w) = 1
looseness (either v before gap w) = 2

abbrev pub IsWell : FilterSyntax → List ℕ → Type 0
IsWell (tested path gap test) after = IsPathBefore path (gap ++ test_bytes test after) × AreSpaces gap × IsWellTest test after
IsWell (denied gap w) after = (looseness w ≡ 0) × EndsName (gap ++ filter_bytes w after) × AreSpaces gap × IsWell w after
IsWell (bracketed before w gap) after = AreSpaces before × AreSpaces gap × IsWell w (gap ++ close_parenthesis ∷ after)
IsWell (both v before gap w) after =
    (looseness v ≤ 1) × (looseness w ≡ 0) × AreSpaces before × AreSpaces gap
    × IsWell v (before ++ (codes "and" ++ (gap ++ filter_bytes w after))) × EndsName (gap ++ filter_bytes w after) × IsWell w after
IsWell (either v before gap w) after =
    (looseness w ≤ 1) × AreSpaces before × AreSpaces gap
    × IsWell v (before ++ (codes "or" ++ (gap ++ filter_bytes w after))) × EndsName (gap ++ filter_bytes w after) × IsWell w after

-- how many `not`s and brackets stand round one term
abbrev pub nesting : FilterSyntax → ℕ
nesting (tested path gap test) = 0
nesting (denied gap w) = nesting w + 1
nesting (bracketed before w gap) = nesting w + 1
nesting (both v before gap w) = max (nesting v) (nesting w)
nesting (either v before gap w) = max (nesting v) (nesting w)

abbrev pub terms : FilterSyntax → ℕ
terms (tested path gap test) = 1
terms (denied gap w) = terms w
terms (bracketed before w gap) = terms w
terms (both v before gap w) = terms v + terms w
terms (either v before gap w) = terms v + terms w

-- What it means.

abbrev pub literal_of : LiteralSyntax → Json
literal_of null_word = json.null
literal_of (truth_word b) = json.boolean b
literal_of (digits s d) = json.number d
literal_of (string ps) = json.text (text_of ps)

abbrev pub claim_of : TestSyntax → Claim
claim_of exists_word = exists
claim_of missing_word = missing
claim_of (related relation gap literal) = stands relation (literal_of literal)

abbrev pub formula_of : FilterSyntax → Formula
formula_of (tested path gap test) = term (path_of path) (claim_of test)
formula_of (denied gap w) = negation (formula_of w)
formula_of (bracketed before w gap) = formula_of w
formula_of (both v before gap w) = conjunction (formula_of v) (formula_of w)
formula_of (either v before gap w) = disjunction (formula_of v) (formula_of w)

-- a text is this filter, within the limits
pub record IsFilter (text : List ℕ) (formula : Formula) : Type 0 where
  pub written : FilterSyntax
  pub bytes : text ≡ filter_bytes written []
  pub well : IsWell written []
  pub means : formula ≡ formula_of written
  pub few : terms written ≤ most_terms
  pub shallow : nesting written ≤ most_nesting
  pub short : length text ≤ most_bytes
