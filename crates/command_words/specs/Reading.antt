-- How the words are read: what was given so far, and what the words after it give.
use Rattle.std.specs.Prelude.{◌≡◌, ℕ, List, ◌++◌, map, Option, None, Some, Result, Ok, Err}
use Rattle.std.specs.Option.{option_map}
use Rattle.command_words.specs.Arguments.{Arguments}
use Rattle.command_words.specs.Check.{CheckGiven}
use Rattle.command_words.specs.Load.{WritingGiven, LoadGiven}
use Rattle.command_words.specs.Query.{QueryGiven}
use Rattle.command_words.specs.Scan.{Given}
use Rattle.command_words.specs.Widths.{WidthsGiven}
use Rattle.command_words.specs.declared.arguments.CommandWords.{CommandWords}
use Rattle.command_words.specs.declared.arguments.OptionWord.{OptionWord}
use Rattle.command_words.specs.declared.check.CheckWords.{CheckWords}
use Rattle.command_words.specs.declared.settings.WritingWords.{WritingWords}
use Rattle.command_words.specs.declared.load.LoadWords.{LoadWords}
use Rattle.command_words.specs.declared.query.QueryWords.{QueryWords}
use Rattle.command_words.specs.declared.scan.ScanWords.{ScanWords}
use Rattle.command_words.specs.declared.settings.WidthWords.{WidthWords}
use Rattle.command_words.specs.declared.fault.WordFault.{WordFault}
use Rattle.command_words.specs.declared.fault.WordFault.TheVariants.{Usage, NoMemory}

abbrev pub option_of : OptionWord → List ℕ × List ℕ
option_of word = (word.name.now, word.value.now)

abbrev pub given_by : CommandWords → Arguments
given_by words = record { options = map option_of words.options.items; operands = map (λ word. word.now) words.operands.items }

abbrev pub texts_of : ScanWords → Given
texts_of words = record { filter = option_map (λ text. text.now) words.filter; paths = map (λ text. text.now) words.paths.items }

abbrev pub widths_of : WidthWords → WidthsGiven
widths_of words = record { offset = words.offset_width; id = words.id_width }

abbrev pub writing_of : WritingWords → WritingGiven
writing_of words = record { schema = words.schema.now; widths = widths_of words.widths; page_bytes = words.page_bytes; group_rows = words.group_rows }

abbrev pub load_of : LoadWords → LoadGiven
load_of words = record { out = words.out.now; writing = writing_of words.writing }

abbrev pub query_of : QueryWords → QueryGiven
query_of words = record { file = words.file.now; column = words.column.now; asked = texts_of words.asked }

abbrev pub check_of : CheckWords → CheckGiven
check_of words = record { file = words.file.now; column = words.column.now }

abbrev pub before : Arguments → Option Arguments → Option Arguments
before given more = option_map (λ m. record { options = given.options ++ m.options; operands = given.operands ++ m.operands }) more

-- the words aren't the command's. Out of memory says nothing
abbrev pub IsRefused : {B : Type 0} → WordFault → Option B → Type 0
IsRefused Usage defined = defined ≡ None
IsRefused NoMemory defined = Unit {0}

-- the same is given, or the words aren't the command's
abbrev pub ReadsWords : {A B : Type 0} → (A → B) → Result A WordFault → Option B → Type 0
ReadsWords view (Ok words) defined = defined ≡ Some (view words)
ReadsWords view (Err fault) defined = IsRefused fault defined
