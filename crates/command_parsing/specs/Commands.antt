-- What the words after a command's name ask for, and what is wrong with those that ask for nothing.
use Rattle.std.specs.Prelude.{◌≡◌, ℕ, List}
use Rattle.command_words.specs.Check.{CheckGiven, check_words}
use Rattle.command_words.specs.Load.{LoadGiven, load_words}
use Rattle.command_words.specs.Query.{QueryGiven, query_words}
use Rattle.command_words.specs.Reading.{widths_of}
use Rattle.command_words.specs.Scan.{scan_words}
use Rattle.command_words.specs.Variant.{variant_words}
use Rattle.command_words.specs.Widths.{WidthsGiven}
use Rattle.query_tree.specs.Asked.{Asked, query_of}
use Rattle.schema_parsing.specs.Grammar.{IsSchema}
use Rattle.shred_schema.specs.Groups.{Group}
use Rattle.shred_schema.specs.Views.{group_of}
use Rattle.command_parsing.specs.Asking.{Asks, IsWrong, IsNever}
use Rattle.command_parsing.specs.Queries.{IsAsked, IsWrongQuery}
use Rattle.command_parsing.specs.declared.check.CheckCommand.{CheckCommand}
use Rattle.command_parsing.specs.declared.fault.BadWords.{BadWords}
use Rattle.command_parsing.specs.declared.fault.BadWords.TheVariants.{BadSchema}
use Rattle.command_parsing.specs.declared.load.LoadCommand.{LoadCommand}
use Rattle.command_parsing.specs.declared.query.QueryCommand.{QueryCommand}

-- ---- scan: a query

abbrev pub AskScan : List (List ℕ) → Asked → Type 0
AskScan words asked = Asks (scan_words words) (λ given. IsAsked given asked)

abbrev pub AskScanWrongly : List (List ℕ) → BadWords → Type 0
AskScanWrongly words bad = IsWrong (scan_words words) IsWrongQuery bad

-- ---- variant: widths

abbrev pub AskVariant : List (List ℕ) → WidthsGiven → Type 0
AskVariant words widths = Asks (variant_words words) (λ given. widths ≡ given)

abbrev pub AskVariantWrongly : List (List ℕ) → BadWords → Type 0
AskVariantWrongly words bad = IsWrong (variant_words words) IsNever bad

-- ---- load: a file that is written, the schema of its column, and how it is written

pub record Load : Type 0 where
  pub out : List ℕ
  pub schema : Group
  pub widths : WidthsGiven
  pub page_bytes : ℕ
  pub group_rows : ℕ

-- the schema is that of the text
pub record IsLoad (given : LoadGiven) (load : Load) : Type 0 where
  pub out : load.out ≡ given.out
  pub is_schema : IsSchema given.writing.schema load.schema
  pub widths : load.widths ≡ given.writing.widths
  pub page_bytes : load.page_bytes ≡ given.writing.page_bytes
  pub group_rows : load.group_rows ≡ given.writing.group_rows

-- the text is no schema
abbrev pub IsWrongSchema : List ℕ → BadWords → Type 0
IsWrongSchema text bad = (bad ≡ BadSchema) × ((schema : Group) → IsSchema text schema → ⊥)

abbrev pub AskLoad : List (List ℕ) → Load → Type 0
AskLoad words load = Asks (load_words words) (λ given. IsLoad given load)

abbrev pub AskLoadWrongly : List (List ℕ) → BadWords → Type 0
AskLoadWrongly words bad = IsWrong (load_words words) (λ given bad. IsWrongSchema given.writing.schema bad) bad

-- ---- query: a file, a column of it, and a query

pub record FileQuery : Type 0 where
  pub file : List ℕ
  pub column : List ℕ
  pub asked : Asked

pub record IsFileQuery (given : QueryGiven) (query : FileQuery) : Type 0 where
  pub file : query.file ≡ given.file
  pub column : query.column ≡ given.column
  pub is_asked : IsAsked given.asked query.asked

abbrev pub AskQuery : List (List ℕ) → FileQuery → Type 0
AskQuery words query = Asks (query_words words) (λ given. IsFileQuery given query)

abbrev pub AskQueryWrongly : List (List ℕ) → BadWords → Type 0
AskQueryWrongly words bad = IsWrong (query_words words) (λ given bad. IsWrongQuery given.asked bad) bad

-- ---- check: a file, and a column of it

abbrev pub AskCheck : List (List ℕ) → CheckGiven → Type 0
AskCheck words check = Asks (check_words words) (λ given. check ≡ given)

abbrev pub AskCheckWrongly : List (List ℕ) → BadWords → Type 0
AskCheckWrongly words bad = IsWrong (check_words words) IsNever bad

-- ---- what the code holds

abbrev pub load_of : LoadCommand → Load
load_of c = record { out = c.out; schema = group_of c.schema; widths = widths_of c.widths; page_bytes = c.page_bytes; group_rows = c.group_rows }

abbrev pub file_query_of : QueryCommand → FileQuery
file_query_of c = record { file = c.file; column = c.column; asked = query_of c.query }

abbrev pub check_of : CheckCommand → CheckGiven
check_of c = record { file = c.file; column = c.column }
