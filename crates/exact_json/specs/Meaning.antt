-- What a line spells: from a derivation of the grammar to the value, and what a derivation may have that
-- makes its line no document.
use Rattle.std.specs.Prelude.{◌≡◌, ℕ, ◌<◌, ◌≤◌, List, [], ◌∷◌, map, Bool, true, false, not, ◌||◌, cond, is_some, Option, None, Some, Result, Ok, Err, length}
use Rattle.std.specs.Result.{result_ok}
use Rattle.std.specs.Str.{IsUtf8}
use Rattle.vs_bytes.specs.Names.{repeats}
use Rattle.exact_num.specs.Decimal.{Decimal}
use Rattle.exact_num.specs.Reading.{read_of}
use Rattle.json_strings.specs.Meaning.{text_of, lone_of}
use Rattle.json_grammar.specs.Grammar as written
use Rattle.json_grammar.specs.Grammar.{Written, Elements, no_elements, first_element, MoreElements, end_elements, next_element, Entry, entry, Entries, no_entries, first_entry, MoreEntries, end_entries, next_entry, IsWrittenAs}
use Rattle.json_lines.specs.Cut.{max_line}
use Rattle.json_tree.specs.Json.{Json, null, boolean, number, text, array, object, Parts, no_parts, part, fields_of}
use Rattle.json_tree.specs.Order.{sorted}
use Rattle.exact_json.specs.Brackets.{is_too_deep}
use Rattle.exact_json.specs.declared.fault.DocFault.{DocFault}
use Rattle.exact_json.specs.declared.fault.DocFault.TheVariants.{LineTooLong, NotUtf8, TooDeep, NotJson, LoneSurrogate, DuplicateKey, NumberTooWide, NoMemory}

-- the number of a text, where it is admitted
abbrev pub number_of : List ℕ → Option Decimal
number_of s = result_ok (read_of s)

-- Where a part has no value, null stands in for it: its line is no document, and this is never shown.

abbrev pub number_or_null : Option Decimal → Json
number_or_null None = null
number_or_null (Some d) = number d

-- the members stand in the order of their names
abbrev pub object_or_null : List (List ℕ × Json) → Json
object_or_null ms = cond (repeats (map (λ m. m.0) ms)) null (object (fields_of (sorted ms)))

-- the value of a derivation
abbrev mutual
  pub tree_of : Written → Json
  tree_of written.null = null
  tree_of (written.boolean b) = boolean b
  tree_of (written.number s) = number_or_null (number_of s)
  tree_of (written.text ps) = text (text_of ps)
  tree_of (written.array gap es) = array (parts_in es)
  tree_of (written.object gap es) = object_or_null (pairs_in es)

  pub parts_in : Elements → Parts
  parts_in no_elements = no_parts
  parts_in (first_element w gap es) = part (tree_of w) (more_parts_in es)

  pub more_parts_in : MoreElements → Parts
  more_parts_in end_elements = no_parts
  more_parts_in (next_element before w gap es) = part (tree_of w) (more_parts_in es)

  pub pair_in : Entry → List ℕ × Json
  pair_in (entry name before gap w) = (text_of name, tree_of w)

  pub pairs_in : Entries → List (List ℕ × Json)
  pairs_in no_entries = []
  pairs_in (first_entry e gap es) = pair_in e ∷ more_pairs_in es

  pub more_pairs_in : MoreEntries → List (List ℕ × Json)
  more_pairs_in end_entries = []
  more_pairs_in (next_entry before e gap es) = pair_in e ∷ more_pairs_in es

-- what a derivation has that no document may have
pub record Flaws : Type 0 where
  -- an escape of a surrogate without its partner
  pub lone : Bool
  -- an object with two equal names, after escapes
  pub repeated : Bool
  -- a number that isn't admitted
  pub wide : Bool

abbrev pub flawless : Flaws
flawless = record { lone = false; repeated = false; wide = false }

-- the flaws of a part and of what was read before it
abbrev pub joined : Flaws → Flaws → Flaws
joined before found = record { lone = found.lone || before.lone; repeated = found.repeated || before.repeated; wide = found.wide || before.wide }

abbrev pub lone_flaw : Bool → Flaws
lone_flaw found = record { lone = found; repeated = false; wide = false }

abbrev pub repeated_flaw : Bool → Flaws
repeated_flaw found = record { lone = false; repeated = found; wide = false }

abbrev pub wide_flaw : Bool → Flaws
wide_flaw found = record { lone = false; repeated = false; wide = found }

abbrev mutual
  pub flaws_of : Written → Flaws
  flaws_of written.null = flawless
  flaws_of (written.boolean b) = flawless
  flaws_of (written.number s) = wide_flaw (not (is_some (number_of s)))
  flaws_of (written.text ps) = lone_flaw (lone_of ps)
  flaws_of (written.array gap es) = elements_flaws es
  flaws_of (written.object gap es) = joined (entries_flaws es) (repeated_flaw (repeats (map (λ m. m.0) (pairs_in es))))

  pub elements_flaws : Elements → Flaws
  elements_flaws no_elements = flawless
  elements_flaws (first_element w gap es) = joined (flaws_of w) (more_elements_flaws es)

  pub more_elements_flaws : MoreElements → Flaws
  more_elements_flaws end_elements = flawless
  more_elements_flaws (next_element before w gap es) = joined (flaws_of w) (more_elements_flaws es)

  pub entry_flaws : Entry → Flaws
  entry_flaws (entry name before gap w) = joined (lone_flaw (lone_of name)) (flaws_of w)

  pub entries_flaws : Entries → Flaws
  entries_flaws no_entries = flawless
  entries_flaws (first_entry e gap es) = joined (entry_flaws e) (more_entries_flaws es)

  pub more_entries_flaws : MoreEntries → Flaws
  more_entries_flaws end_entries = flawless
  more_entries_flaws (next_entry before e gap es) = joined (entry_flaws e) (more_entries_flaws es)

-- the text denotes the value, whatever its length and however deep it nests
pub record Denotes (bytes : List ℕ) (json : Json) : Type 0 where
  pub way : Written
  pub is_written : IsWrittenAs bytes way
  pub is_flawless : flaws_of way ≡ flawless
  pub value : json ≡ tree_of way

-- a line that none of the first three faults has
pub record IsShortText (line : List ℕ) : Type 0 where
  pub short : length line ≤ max_line
  pub utf8 : IsUtf8 line
  pub shallow : is_too_deep line ≡ false

-- a line that is JSON, and how it is written
pub record IsJson (line : List ℕ) : Type 0 where
  pub is_short_text : IsShortText line
  pub way : Written
  pub is_written : IsWrittenAs line way

-- the line spells the value
pub record Spells (line : List ℕ) (json : Json) : Type 0 where
  pub is_json : IsJson line
  pub is_flawless : flaws_of is_json.way ≡ flawless
  pub value : json ≡ tree_of is_json.way

-- the first fault of a line, in this order; each is a property of the whole line
abbrev pub IsFirstFault : List ℕ → DocFault → Type 0
IsFirstFault line LineTooLong = max_line < length line
IsFirstFault line NotUtf8 = (length line ≤ max_line) × (IsUtf8 line → ⊥)
IsFirstFault line TooDeep = (length line ≤ max_line) × IsUtf8 line × (is_too_deep line ≡ true)
IsFirstFault line NotJson = IsShortText line × ((w : Written) → IsWrittenAs line w → ⊥)
IsFirstFault line LoneSurrogate = (j : IsJson line) × ((flaws_of j.way).lone ≡ true)
IsFirstFault line DuplicateKey = (j : IsJson line) × ((flaws_of j.way).lone ≡ false) × ((flaws_of j.way).repeated ≡ true)
IsFirstFault line NumberTooWide = (j : IsJson line) × ((flaws_of j.way).lone ≡ false) × ((flaws_of j.way).repeated ≡ false) × ((flaws_of j.way).wide ≡ true)
IsFirstFault line NoMemory = ⊥

-- what a reader of a line answers: the value that it spells, or its first fault
abbrev pub Answers : {A : Type 0} → (A → Json) → List ℕ → Result A DocFault → Type 0
Answers view line (Ok tree) = Spells line (view tree)
Answers view line (Err LineTooLong) = IsFirstFault line LineTooLong
Answers view line (Err NotUtf8) = IsFirstFault line NotUtf8
Answers view line (Err TooDeep) = IsFirstFault line TooDeep
Answers view line (Err NotJson) = IsFirstFault line NotJson
Answers view line (Err LoneSurrogate) = IsFirstFault line LoneSurrogate
Answers view line (Err DuplicateKey) = IsFirstFault line DuplicateKey
Answers view line (Err NumberTooWide) = IsFirstFault line NumberTooWide
Answers view line (Err NoMemory) = Unit {0}
