-- The grammar of RFC 8259 as derivation trees: a `Written` is one way in which a value is spelled, with
-- its white space, its escapes and its digits. `spelled` gives the bytes, `IsWell` what the grammar asks.
use Rattle.std.specs.Prelude.{◌≡◌, ℕ, ◌+◌, ◌⊎◌, max, List, ◌∷◌, ◌++◌, Bool, cond, codes}
use Rattle.std.specs.List.{AllByRecursion}
use Rattle.exact_num.specs.Spelling as numbers
use Rattle.json_strings.specs.Pieces.{Piece, pieces_spelled}
use Rattle.json_strings.specs.Meaning.{IsString}

mutual
  pub data Written : Type 0 where
    null : Written
    boolean : Bool → Written
    number : List ℕ → Written
    text : List Piece → Written
    -- an array or object has white space after its opening bracket
    array : List ℕ → Elements → Written
    object : List ℕ → Entries → Written

  -- each element stands between two stretches of white space
  pub data Elements : Type 0 where
    no_elements : Elements
    first_element : Written → List ℕ → MoreElements → Elements

  pub data MoreElements : Type 0 where
    end_elements : MoreElements
    next_element : List ℕ → Written → List ℕ → MoreElements → MoreElements

  -- a name, white space, a colon, white space, a value
  pub data Entry : Type 0 where
    entry : List Piece → List ℕ → List ℕ → Written → Entry

  pub data Entries : Type 0 where
    no_entries : Entries
    first_entry : Entry → List ℕ → MoreEntries → Entries

  pub data MoreEntries : Type 0 where
    end_entries : MoreEntries
    next_entry : List ℕ → Entry → List ℕ → MoreEntries → MoreEntries

-- The bytes, with `after` after them.

abbrev mutual
  pub spelled : Written → List ℕ → List ℕ
  spelled null after = codes "null" ++ after
  spelled (boolean b) after = cond b (codes "true") (codes "false") ++ after
  spelled (number s) after = s ++ after
  spelled (text ps) after = 34 ∷ pieces_spelled ps after
  spelled (array gap es) after = 91 ∷ (gap ++ elements_spelled es after)
  spelled (object gap es) after = 123 ∷ (gap ++ entries_spelled es after)

  pub elements_spelled : Elements → List ℕ → List ℕ
  elements_spelled no_elements after = 93 ∷ after
  elements_spelled (first_element w gap es) after = spelled w (gap ++ more_elements_spelled es after)

  pub more_elements_spelled : MoreElements → List ℕ → List ℕ
  more_elements_spelled end_elements after = 93 ∷ after
  more_elements_spelled (next_element before w gap es) after = 44 ∷ (before ++ spelled w (gap ++ more_elements_spelled es after))

  pub entry_spelled : Entry → List ℕ → List ℕ
  entry_spelled (entry name before gap w) after = 34 ∷ pieces_spelled name (before ++ 58 ∷ (gap ++ spelled w after))

  pub entries_spelled : Entries → List ℕ → List ℕ
  entries_spelled no_entries after = 125 ∷ after
  entries_spelled (first_entry e gap es) after = entry_spelled e (gap ++ more_entries_spelled es after)

  pub more_entries_spelled : MoreEntries → List ℕ → List ℕ
  more_entries_spelled end_entries after = 125 ∷ after
  more_entries_spelled (next_entry before e gap es) after = 44 ∷ (before ++ entry_spelled e (gap ++ more_entries_spelled es after))

-- What the grammar asks of the bytes that stand for themselves.

-- white space (section 2)
abbrev pub IsSpace : ℕ → Type 0
IsSpace x = (x ≡ 32) ⊎ ((x ≡ 9) ⊎ ((x ≡ 10) ⊎ (x ≡ 13)))

abbrev pub IsGap : List ℕ → Type 0
IsGap xs = AllByRecursion IsSpace xs

-- a number (section 6), by its parts
pub record IsNumber (s : List ℕ) : Type 0 where
  pub parts : numbers.Written
  pub is_spelling : numbers.IsSpelling s parts

abbrev mutual
  pub IsWell : Written → Type 0
  IsWell null = Unit {0}
  IsWell (boolean b) = Unit {0}
  IsWell (number s) = IsNumber s
  IsWell (text ps) = IsString ps
  IsWell (array gap es) = IsGap gap × AreWellElements es
  IsWell (object gap es) = IsGap gap × AreWellEntries es

  pub AreWellElements : Elements → Type 0
  AreWellElements no_elements = Unit {0}
  AreWellElements (first_element w gap es) = IsWell w × IsGap gap × AreWellMore es

  pub AreWellMore : MoreElements → Type 0
  AreWellMore end_elements = Unit {0}
  AreWellMore (next_element before w gap es) = IsGap before × IsWell w × IsGap gap × AreWellMore es

  pub IsWellEntry : Entry → Type 0
  IsWellEntry (entry name before gap w) = IsString name × IsGap before × IsGap gap × IsWell w

  pub AreWellEntries : Entries → Type 0
  AreWellEntries no_entries = Unit {0}
  AreWellEntries (first_entry e gap es) = IsWellEntry e × IsGap gap × AreWellMoreEntries es

  pub AreWellMoreEntries : MoreEntries → Type 0
  AreWellMoreEntries end_entries = Unit {0}
  AreWellMoreEntries (next_entry before e gap es) = IsGap before × IsWellEntry e × IsGap gap × AreWellMoreEntries es

-- how many arrays and objects are open at once
abbrev mutual
  pub nesting : Written → ℕ
  nesting null = 0
  nesting (boolean b) = 0
  nesting (number s) = 0
  nesting (text ps) = 0
  nesting (array gap es) = elements_nesting es + 1
  nesting (object gap es) = entries_nesting es + 1

  pub elements_nesting : Elements → ℕ
  elements_nesting no_elements = 0
  elements_nesting (first_element w gap es) = max (nesting w) (more_nesting es)

  pub more_nesting : MoreElements → ℕ
  more_nesting end_elements = 0
  more_nesting (next_element before w gap es) = max (nesting w) (more_nesting es)

  pub entry_nesting : Entry → ℕ
  entry_nesting (entry name before gap w) = nesting w

  pub entries_nesting : Entries → ℕ
  entries_nesting no_entries = 0
  entries_nesting (first_entry e gap es) = max (entry_nesting e) (more_entries_nesting es)

  pub more_entries_nesting : MoreEntries → ℕ
  more_entries_nesting end_entries = 0
  more_entries_nesting (next_entry before e gap es) = max (entry_nesting e) (more_entries_nesting es)

-- a JSON text is a value with white space round it (section 2)
pub record IsWrittenAs (line : List ℕ) (w : Written) : Type 0 where
  pub before : List ℕ
  pub after : List ℕ
  pub bytes : line ≡ before ++ spelled w after
  pub is_gap : IsGap before
  pub is_well : IsWell w
  pub is_gap_after : IsGap after
