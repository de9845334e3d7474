-- Words that ask for a command are wrong in no way.
use Rattle.std.proofs.Common.{◌≡◌, ap, subst, ℕ, List, [], ◌∷◌, Option, Some, None}
use Rattle.command_parsing.proofs.AskedOnce.{scan_right, variant_right, load_right, file_query_right, check_right, scan_once, variant_once, load_once, file_query_once, check_once}
use Rattle.command_parsing.specs.declared.fault.BadWords.{BadWords}
use Rattle.variant_store.specs.Commands.{Command, prints, loads, queries, checks, name_of, widths_given, AskCommand, AskFor, AskCommandWrongly, AskWrongly}
use Rattle.command_parsing.specs.Commands.{Load, FileQuery}
use Rattle.command_words.specs.Check.{CheckGiven}
use Rattle.command_words.specs.Widths.{WidthsGiven}
use Rattle.variant_write.specs.declared.widths.Widths.{Widths}
use Rattle.variant_store.specs.Stream.{Stream, scan, variant}
use Rattle.variant_store.specs.declared.command.Name.TheVariants as name
use Rattle.variant_store.specs.declared.command.Name.{Name}

command_right : (words : List (List ℕ)) (command : Command) (bad : BadWords) → AskCommand words command → AskCommandWrongly (Some (name_of command)) words bad → ⊥
command_right words (prints (scan asked)) bad ask wrong = scan_right words asked bad ask wrong
command_right words (prints (variant widths)) bad ask wrong = variant_right words (widths_given widths) bad ask wrong
command_right words (loads load) bad ask wrong = load_right words load bad ask wrong
command_right words (queries query) bad ask wrong = file_query_right words query bad ask wrong
command_right words (checks check) bad ask wrong = check_right words check bad ask wrong

pub not_wrong : (words : List (List ℕ)) (command : Command) (bad : BadWords) → AskFor words command → AskWrongly words bad → ⊥
not_wrong [] command bad ask wrong = ask
not_wrong (word ∷ words) command bad ask wrong = command_right words command bad ask.1 (subst (λ (o : Option Name). AskCommandWrongly o words bad) ask.0 wrong)

-- and they ask for one

pub other_name : (words : List (List ℕ)) (one other : Command) → AskFor words one → AskFor words other → name_of one ≡ name_of other
other_name [] one other f g = absurd f
other_name (word ∷ words) one other f g = let a = f.0 in let b = g.0 in cc

-- a command that prints something of each document has no other's name
stream_load : (stream : Stream) → name_of (prints stream) ≡ name.Load → ⊥
stream_load (scan asked) e = cc
stream_load (variant widths) e = cc

stream_query : (stream : Stream) → name_of (prints stream) ≡ name.Query → ⊥
stream_query (scan asked) e = cc
stream_query (variant widths) e = cc

stream_check : (stream : Stream) → name_of (prints stream) ≡ name.Check → ⊥
stream_check (scan asked) e = cc
stream_check (variant widths) e = cc

pub stream_or_load : (words : List (List ℕ)) (stream : Stream) (load : Load) → AskFor words (prints stream) → AskFor words (loads load) → ⊥
stream_or_load words stream load f g = stream_load stream (other_name words (prints stream) (loads load) f g)

pub stream_or_query : (words : List (List ℕ)) (stream : Stream) (query : FileQuery) → AskFor words (prints stream) → AskFor words (queries query) → ⊥
stream_or_query words stream query f g = stream_query stream (other_name words (prints stream) (queries query) f g)

pub stream_or_check : (words : List (List ℕ)) (stream : Stream) (check : CheckGiven) → AskFor words (prints stream) → AskFor words (checks check) → ⊥
stream_or_check words stream check f g = stream_check stream (other_name words (prints stream) (checks check) f g)

pub load_or_query : (words : List (List ℕ)) (load : Load) (query : FileQuery) → AskFor words (loads load) → AskFor words (queries query) → ⊥
load_or_query words load query f g = let e : name.Load ≡ name.Query = other_name words (loads load) (queries query) f g in cc

pub load_or_check : (words : List (List ℕ)) (load : Load) (check : CheckGiven) → AskFor words (loads load) → AskFor words (checks check) → ⊥
load_or_check words load check f g = let e : name.Load ≡ name.Check = other_name words (loads load) (checks check) f g in cc

query_or_check : (words : List (List ℕ)) (query : FileQuery) (check : CheckGiven) → AskFor words (queries query) → AskFor words (checks check) → ⊥
query_or_check words query check f g = let e : name.Query ≡ name.Check = other_name words (queries query) (checks check) f g in cc

one_load : (words : List (List ℕ)) (load other : Load) → AskFor words (loads load) → AskFor words (loads other) → load ≡ other
one_load [] load other f g = absurd f
one_load (word ∷ words) load other f g = load_once words load other f.1 g.1

widths_back : WidthsGiven → Widths
widths_back given = record { offset = given.offset; id = given.id }

same_widths : (a b : Widths) → widths_given a ≡ widths_given b → a ≡ b
unfolding widths_back
same_widths a b e = ap widths_back e

pub one_stream : (words : List (List ℕ)) (stream other : Stream) → AskFor words (prints stream) → AskFor words (prints other) → stream ≡ other
one_stream [] stream other f g = absurd f
one_stream (word ∷ words) (scan asked) (scan other) f g = ap scan (scan_once words asked other f.1 g.1)
one_stream (word ∷ words) (scan asked) (variant widths) f g = let a = f.0 in let b = g.0 in absurd (let e : name.Scan ≡ name.Variant = cc in cc)
one_stream (word ∷ words) (variant widths) (scan asked) f g = let a = f.0 in let b = g.0 in absurd (let e : name.Variant ≡ name.Scan = cc in cc)
one_stream (word ∷ words) (variant widths) (variant other) f g = ap variant (same_widths widths other (variant_once words (widths_given widths) (widths_given other) f.1 g.1))

one_query : (words : List (List ℕ)) (query other : FileQuery) → AskFor words (queries query) → AskFor words (queries other) → query ≡ other
one_query [] query other f g = absurd f
one_query (word ∷ words) query other f g = file_query_once words query other f.1 g.1

one_check : (words : List (List ℕ)) (check other : CheckGiven) → AskFor words (checks check) → AskFor words (checks other) → check ≡ other
one_check [] check other f g = absurd f
one_check (word ∷ words) check other f g = check_once words check other f.1 g.1

pub one_command : (words : List (List ℕ)) (one other : Command) → AskFor words one → AskFor words other → one ≡ other
one_command words (prints stream) (prints other) f g = ap prints (one_stream words stream other f g)
one_command words (prints stream) (loads load) f g = absurd (stream_or_load words stream load f g)
one_command words (prints stream) (queries query) f g = absurd (stream_or_query words stream query f g)
one_command words (prints stream) (checks check) f g = absurd (stream_or_check words stream check f g)
one_command words (loads load) (prints stream) f g = absurd (stream_or_load words stream load g f)
one_command words (loads load) (loads other) f g = ap loads (one_load words load other f g)
one_command words (loads load) (queries query) f g = absurd (load_or_query words load query f g)
one_command words (loads load) (checks check) f g = absurd (load_or_check words load check f g)
one_command words (queries query) (prints stream) f g = absurd (stream_or_query words stream query g f)
one_command words (queries query) (loads load) f g = absurd (load_or_query words load query g f)
one_command words (queries query) (queries other) f g = ap queries (one_query words query other f g)
one_command words (queries query) (checks check) f g = absurd (query_or_check words query check f g)
one_command words (checks check) (prints stream) f g = absurd (stream_or_check words stream check g f)
one_command words (checks check) (loads load) f g = absurd (load_or_check words load check g f)
one_command words (checks check) (queries query) f g = absurd (query_or_check words query check g f)
one_command words (checks check) (checks other) f g = ap checks (one_check words check other f g)
