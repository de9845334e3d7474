-- The judgement of a line as a function of its bytes, in the order in which the reader looks for faults.
use Rattle.std.specs.Prelude.{◌≡◌, ℕ, List, cond, Option, Some, None, Result, Ok, Err}
use Rattle.std.specs.Str.{is_utf8}
use Rattle.json_grammar.specs.Grammar.{Written}
use Rattle.json_grammar.specs.Reading.{document_at}
use Rattle.json_lines.specs.Cut.{is_long}
use Rattle.json_tree.specs.Json.{Json}
use Rattle.exact_json.specs.Brackets.{is_too_deep}
use Rattle.exact_json.specs.Meaning.{Flaws, tree_of, flaws_of}
use Rattle.exact_json.specs.declared.fault.DocFault.{DocFault}
use Rattle.exact_json.specs.declared.fault.DocFault.TheVariants.{LineTooLong, NotUtf8, TooDeep, NotJson, LoneSurrogate, DuplicateKey, NumberTooWide, NoMemory}

-- the first of the faults that flaws make
abbrev pub fault_of : Flaws → Option DocFault
fault_of flaws = cond flaws.lone (Some LoneSurrogate) (cond flaws.repeated (Some DuplicateKey) (cond flaws.wide (Some NumberTooWide) None))

abbrev pub fault_or : Json → Option DocFault → Result Json DocFault
fault_or json None = Ok json
fault_or json (Some fault) = Err fault

abbrev pub judged_reading : Option Written → Result Json DocFault
judged_reading None = Err NotJson
judged_reading (Some w) = fault_or (tree_of w) (fault_of (flaws_of w))

-- of a UTF-8 text that isn't too long
abbrev pub judged_text : List ℕ → Result Json DocFault
judged_text line = cond (is_too_deep line) (Err TooDeep) (judged_reading (document_at line))

abbrev pub judged : List ℕ → Result Json DocFault
judged line = cond (is_long line) (Err LineTooLong) (cond (is_utf8 line) (judged_text line) (Err NotUtf8))

-- out of memory says nothing
abbrev pub Excused : DocFault → Type 0 → Type 0
Excused LineTooLong P = P
Excused NotUtf8 P = P
Excused TooDeep P = P
Excused NotJson P = P
Excused LoneSurrogate P = P
Excused DuplicateKey P = P
Excused NumberTooWide P = P
Excused NoMemory P = Unit {0}

-- the judgement is answered
abbrev pub Gives : {A : Type 0} → (A → Json) → Result A DocFault → Result Json DocFault → Type 0
Gives view (Ok a) judgement = judgement ≡ Ok (view a)
Gives view (Err fault) judgement = Excused fault (judgement ≡ Err fault)
