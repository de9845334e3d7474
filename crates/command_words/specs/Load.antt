-- What the words after `load` give.
use Rattle.std.specs.Prelude.{ℕ, List, [], ◌∷◌, if◌then◌else◌, codes, Option, None}
use Rattle.std.specs.Option.{option_map}
use Rattle.byte_parsing.specs.Parse.{and_then}
use Rattle.command_words.specs.Arguments.{Arguments, arguments_of}
use Rattle.command_words.specs.Files.{only_file, or_text}
use Rattle.command_words.specs.Numbers.{number_given}
use Rattle.command_words.specs.Options.{are_known, value_of}
use Rattle.command_words.specs.Widths.{WidthsGiven, widths_given}
use Rattle.command_words.specs.declared.numbers.NumberRange.{NumberRange}

-- how a file is written: the text of the schema, the least widths of offsets and of field ids, and the limits of
-- a page, in bytes, and of a row group, in rows
pub record WritingGiven : Type 0 where
  pub schema : List ℕ
  pub widths : WidthsGiven
  pub page_bytes : ℕ
  pub group_rows : ℕ

pub record LoadGiven : Type 0 where
  pub out : List ℕ
  pub writing : WritingGiven

abbrev pub page_range : NumberRange
page_range = record { least = 1024; most = 16777216; default = 1048576 }

abbrev pub group_range : NumberRange
group_range = record { least = 1; most = 100000; default = 10000 }

-- the options of writing
abbrev pub writing_options : List (List ℕ)
writing_options = codes "--schema" ∷ (codes "--offset-width" ∷ (codes "--id-width" ∷ (codes "--page-bytes" ∷ (codes "--group-rows" ∷ []))))

abbrev pub writing_given : List (List ℕ × List ℕ) → Option WritingGiven
writing_given options =
    and_then (value_of (codes "--schema") options) (λ schema. and_then (widths_given options) (λ widths. and_then (number_given (codes "--page-bytes") page_range options) (λ page_bytes.
    option_map (λ group_rows. record { schema = or_text (codes "variant") schema; widths = widths; page_bytes = page_bytes; group_rows = group_rows }) (number_given (codes "--group-rows") group_range options))))

-- the operand is the file that is written
abbrev pub load_given : Arguments → Option LoadGiven
load_given given =
    if are_known writing_options given.options
    then and_then (only_file given.operands) (λ out. option_map (λ writing. record { out = out; writing = writing }) (writing_given given.options)) else None

-- what the words after `load` give, or none where they aren't its words
abbrev pub load_words : List (List ℕ) → Option LoadGiven
load_words words = and_then (arguments_of words) load_given
