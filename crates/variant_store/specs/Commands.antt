-- What a call can be asked to do.
use Rattle.std.specs.Prelude.{◌≡◌, ℕ, List, [], ◌∷◌, codes, if◌then◌else◌, Option, Some, None}
use Rattle.std.specs.Str.{bytes_eq}
use Rattle.command_words.specs.Check.{CheckGiven}
use Rattle.command_words.specs.Widths.{WidthsGiven}
use Rattle.command_words.specs.declared.settings.WidthWords.{WidthWords}
use Rattle.command_parsing.specs.Commands.{AskScan, AskScanWrongly, AskVariant, AskVariantWrongly, Load, AskLoad, AskLoadWrongly, load_of, FileQuery, AskQuery, AskQueryWrongly, file_query_of, AskCheck, AskCheckWrongly, check_of}
use Rattle.command_parsing.specs.declared.fault.BadWords.{BadWords}
use Rattle.command_parsing.specs.declared.fault.BadWords.TheVariants.{Usage}
use Rattle.query_tree.specs.Asked.{query_of}
use Rattle.variant_write.specs.declared.widths.Widths.{Widths}
use Rattle.variant_store.specs.Stream.{Stream, scan, variant}
use Rattle.variant_store.specs.declared.command.Name.{Name}
use Rattle.variant_store.specs.declared.command.Name.TheVariants as name
use Rattle.variant_store.specs.declared.command.Command as code
use Rattle.variant_store.specs.declared.command.Command.TheVariants as commands

pub data Command : Type 0 where
  -- to print something of each document of the input
  prints : Stream → Command
  -- to write the documents of the input to a new file
  loads : Load → Command
  -- to print something of each row of a file
  queries : FileQuery → Command
  -- to tell whether a file violates a rule
  checks : CheckGiven → Command

-- the command that a word names
abbrev pub named : List ℕ → Option Name
named word = if bytes_eq word (codes "scan") then Some name.Scan else (if bytes_eq word (codes "variant") then Some name.Variant else (if bytes_eq word (codes "load") then Some name.Load else (if bytes_eq word (codes "query") then Some name.Query else (if bytes_eq word (codes "check") then Some name.Check else None))))

-- ---- by the first word, which names the command, and the words after it

abbrev pub name_of : Command → Name
name_of (prints (scan asked)) = name.Scan
name_of (prints (variant widths)) = name.Variant
name_of (loads load) = name.Load
name_of (queries query) = name.Query
name_of (checks check) = name.Check

abbrev pub widths_given : Widths → WidthsGiven
widths_given widths = record { offset = widths.offset; id = widths.id }

-- the words after a command's name ask for this
abbrev pub AskCommand : List (List ℕ) → Command → Type 0
AskCommand words (prints (scan asked)) = AskScan words asked
AskCommand words (prints (variant widths)) = AskVariant words (widths_given widths)
AskCommand words (loads load) = AskLoad words load
AskCommand words (queries query) = AskQuery words query
AskCommand words (checks check) = AskCheck words check

-- the words ask for this
abbrev pub AskFor : List (List ℕ) → Command → Type 0
AskFor [] command = ⊥
AskFor (word ∷ words) command = (named word ≡ Some (name_of command)) × AskCommand words command

-- the words after a command's name ask for nothing
abbrev pub AskCommandWrongly : Option Name → List (List ℕ) → BadWords → Type 0
AskCommandWrongly None words bad = bad ≡ Usage
AskCommandWrongly (Some name.Scan) words bad = AskScanWrongly words bad
AskCommandWrongly (Some name.Variant) words bad = AskVariantWrongly words bad
AskCommandWrongly (Some name.Load) words bad = AskLoadWrongly words bad
AskCommandWrongly (Some name.Query) words bad = AskQueryWrongly words bad
AskCommandWrongly (Some name.Check) words bad = AskCheckWrongly words bad

-- the words ask for nothing: they name no command, or the words after its name aren't those of the command, or
-- what these give is wrong
abbrev pub AskWrongly : List (List ℕ) → BadWords → Type 0
AskWrongly [] bad = bad ≡ Usage
AskWrongly (word ∷ words) bad = AskCommandWrongly (named word) words bad

-- ---- what a command uses

-- it reads the input
abbrev pub ReadsInput : Command → Type 0
ReadsInput (prints stream) = Unit {0}
ReadsInput (loads load) = Unit {0}
ReadsInput (queries query) = ⊥
ReadsInput (checks check) = ⊥

-- it writes a file
abbrev pub WritesFile : Command → Type 0
WritesFile (prints stream) = ⊥
WritesFile (loads load) = Unit {0}
WritesFile (queries query) = ⊥
WritesFile (checks check) = ⊥

-- ---- what the code holds

-- the widths that words give
abbrev pub widths_by : WidthWords → Widths
widths_by words = record { offset = words.offset_width; id = words.id_width }

abbrev pub command_of : code.Command → Command
command_of (commands.Scan query) = prints (scan (query_of query))
command_of (commands.Variant words) = prints (variant (widths_by words))
command_of (commands.Load load) = loads (load_of load)
command_of (commands.Query query) = queries (file_query_of query)
command_of (commands.Check check) = checks (check_of check)
