-- The reading of a path as functions on lists, call by call as the parser makes them. They give the steps as
-- they are written, and the bytes after them.
use Rattle.std.specs.Prelude.{◌==◌, nat_le, ℕ, ◌+◌, suc, zero, List, [], ◌∷◌, Bool, false, if◌then◌else◌, ◌&&◌, ◌||◌, Option, Some, None, length}
use Rattle.std.specs.Option.{option_map}
use Rattle.byte_parsing.specs.Bytes.{quote, dollar, star, dot, open_bracket, close_bracket}
use Rattle.byte_parsing.specs.Parse.{Parse, and_then, front, back, past}
use Rattle.byte_parsing.specs.Words.{is_digit, is_whole, is_name, is_name_byte}
use Rattle.json_strings.specs.Reading.{paired_string_at}
use Rattle.path_parsing.specs.Grammar.{StepSyntax, dotted, quoted, indexed, starred, PathSyntax}
use Rattle.path_parsing.specs.Limits.{most_steps, most_bytes, most_digits}

-- after a dot
abbrev pub name_at : Parse StepSyntax
name_at xs = if is_name (front is_name_byte xs) then Some (dotted (front is_name_byte xs), back is_name_byte xs) else None

-- after a quote
abbrev pub string_step : Parse StepSyntax
string_step xs = option_map (λ r. (quoted r.0, r.1)) (paired_string_at xs)

-- whether digits are an index
abbrev pub is_index : List ℕ → Bool
is_index ds = is_whole ds && nat_le (length ds) most_digits

abbrev pub index_at : Parse StepSyntax
index_at xs = if is_index (front is_digit xs) then Some (indexed (front is_digit xs), back is_digit xs) else None

-- after an opening bracket, up to the closing one
abbrev pub inside_at : Parse StepSyntax
inside_at [] = None
inside_at (x ∷ xs) = if x == quote then string_step xs else (if x == star then Some (starred, xs) else index_at (x ∷ xs))

-- what is read, if a closing bracket comes after it
abbrev pub in_brackets : Option (StepSyntax × List ℕ) → Option (StepSyntax × List ℕ)
in_brackets read = and_then read (λ r. option_map (λ rest. (r.0, rest)) (past close_bracket r.1))

-- after an opening bracket
abbrev pub bracket_at : Parse StepSyntax
bracket_at xs = in_brackets (inside_at xs)

-- a dot or a bracket: the bytes with which steps begin
abbrev pub begins_step : List ℕ → Bool
begins_step [] = false
begins_step (x ∷ xs) = x == dot || x == open_bracket

abbrev pub step_at : Parse StepSyntax
step_at [] = None
step_at (x ∷ xs) = if x == dot then name_at xs else (if x == open_bracket then bracket_at xs else None)

-- all steps that stand there, at most so many
unfoldable pub steps_at : ℕ → Parse PathSyntax
steps_at zero xs = if begins_step xs then None else Some ([], xs)
steps_at (suc count) xs =
    if begins_step xs then and_then (step_at xs) (λ s. option_map (λ r. (s.0 ∷ r.0, r.1)) (steps_at count s.1)) else Some ([], xs)

-- a path, which has no more bytes than one may have
unfoldable pub path_at : Parse PathSyntax
path_at xs = and_then (past dollar xs) (λ rest. and_then (steps_at most_steps rest) (λ r. if nat_le (length xs) (length r.1 + most_bytes) then Some r else None))
