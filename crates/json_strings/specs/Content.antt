-- What was read of a string, and what is read of it where the bytes go on.
use Rattle.std.specs.Prelude.{ℕ, List, ◌++◌, Bool, false, ◌||◌, cond, Option, None, Some, is_some, option_and_then}
use Rattle.std.specs.Option.{option_map}
use Rattle.std.specs.Str.{is_utf8}
use Rattle.json_strings.specs.Pieces.{Piece}
use Rattle.json_strings.specs.Meaning.{text_after, lone_after, high_of, unit_text, is_unpaired}
use Rattle.json_strings.specs.Reading.{pieces_at, pieces_behind, pieces_unit}

-- the text, the high surrogate that stands right before what comes, and whether some surrogate before
-- that has no partner
pub record State : Type 0 where
  pub text : List ℕ
  pub high : Option ℕ
  pub lone : Bool

-- bytes of the text, of which there is one at least
abbrev pub after_bytes : State → List ℕ → State
after_bytes s bytes = record { text = s.text ++ bytes; high = None; lone = s.lone || is_some s.high }

-- the unit of a \u escape
abbrev pub after_unit : State → ℕ → State
after_unit s u = record { text = s.text ++ unit_text s.high u; high = high_of u; lone = s.lone || is_unpaired s.high u }

-- bytes that stand for themselves, and nothing else
abbrev pub plain_state : List ℕ → State
plain_state bytes = record { text = bytes; high = None; lone = false }

-- the text, whether some surrogate has no partner, and what is after the string
abbrev pub Quote : Type 0
Quote = List ℕ × Bool × List ℕ

-- what is read in all, with the pieces that come
abbrev pub completed : State → List Piece × List ℕ → Quote
completed s read = (s.text ++ text_after s.high read.0, s.lone || lone_after s.high read.0, read.1)

-- what is read where these bytes come
abbrev pub quote_from : State → List ℕ → Option Quote
quote_from s xs = option_map (completed s) (pieces_at xs)

-- after a backslash
abbrev pub quote_behind : State → List ℕ → Option Quote
quote_behind s xs = option_map (completed s) (pieces_behind xs)

-- after \u
abbrev pub quote_unit : State → List ℕ → Option Quote
quote_unit s xs = option_map (completed s) (pieces_unit xs)

-- the text has to be UTF-8
abbrev pub if_utf8 : Quote → Option Quote
if_utf8 read = cond (is_utf8 read.0) (Some read) None

abbrev pub only_utf8 : Option Quote → Option Quote
only_utf8 read = option_and_then if_utf8 read
