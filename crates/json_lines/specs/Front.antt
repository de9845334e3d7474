-- What the held bytes begin with, and the steps of a call.
use Rattle.std.specs.Prelude.{◌≡◌, ◌⊎◌, ℕ, ◌+◌, ◌-◌, ◌<◌, ◌≤◌, List, [], ◌∷◌, ◌++◌, Result, Ok, Err, length, take, drop, Contains, false}
use Rattle.outside.specs.Devices.{Device, Fails}
use Rattle.std.specs.Io.KnownBytes.{Keeps}
use Rattle.json_lines.specs.Cut.{Lines, none, last, line, found_end, found_line, found_long, found_over, lines_of, max_line, is_blank}
use Rattle.json_lines.specs.Next.{Kept, ended, State, lines_ahead, found, is_decided}
use Rattle.json_lines.specs.Takings.{Passed}
use Rattle.json_lines.specs.Buffer.{max_read}
use Rattle.json_lines.specs.Gains.{Gains}
use Rattle.json_lines.specs.declared.line_reader.Front.{Front}
use Rattle.json_lines.specs.declared.line_reader.Front.TheVariants as front
use Rattle.json_lines.specs.declared.answer.Next.{Next}
use Rattle.json_lines.specs.declared.answer.Next.TheVariants as next
use Rattle.json_lines.specs.declared.answer.LineFault.{LineFault}
use Rattle.json_lines.specs.declared.answer.LineFault.TheVariants as fault

-- a line whose LF stands at a place of the held bytes
pub record IsLine (s : State) (at : ℕ) : Type 0 where
  pub short : at ≤ max_line
  pub counts : at < s.room
  pub inside : at < length s.held
  pub lf : take (at + 1) s.held ≡ take at s.held ++ 10 ∷ []
  pub alone : (tail : List ℕ) → lines_of s.room (take (at + 1) s.held ++ tail) ≡ line (take at s.held) (lines_of (s.room - (at + 1)) tail)

-- a line of too many bytes
pub record IsLong (s : State) : Type 0 where
  pub counts : 0 < s.room
  pub ahead : (rest : List ℕ) → found s rest ≡ found_long (s.number + 1)

-- a last line, which no LF ends, or none where it has no bytes
abbrev pub last_line : List ℕ → Lines
last_line [] = none
last_line (x ∷ xs) = last (x ∷ xs)

-- bytes of a line whose end wasn't read yet
pub record IsOpen (s : State) : Type 0 where
  pub plain : Contains s.held 10 → ⊥
  pub within : length s.held ≤ s.room
  pub short : length s.held ≤ max_line
  pub undecided : is_decided (lines_of s.room s.held) ≡ false
  pub whole : lines_ahead s [] ≡ last_line s.held

abbrev pub Shows : State → Front → Type 0
Shows s (front.Line at) = IsLine s at
Shows s front.Long = IsLong s
Shows s front.Over = (rest : List ℕ) → found s rest ≡ found_over
Shows s front.Open = IsOpen s

-- a line that is given isn't blank
abbrev pub IsGiven : State → Front → Type 0
IsGiven s (front.Line at) = is_blank (take at s.held) ≡ false
IsGiven s front.Long = Unit {0}
IsGiven s front.Over = Unit {0}
IsGiven s front.Open = Unit {0}

-- blank lines were passed over from `s` to `t`, and what comes after them isn't one
pub record PassesBlank (s t : State) (first : Front) : Type 0 where
  pub kept : t.kept ≡ s.kept
  pub passed : Passed s s.held t t.held
  pub decided : is_decided (lines_of t.room t.held) ≡ is_decided (lines_of s.room s.held)
  pub room : t.room ≤ s.room
  pub gap : t.room + length s.held ≡ s.room + length t.held
  pub within : length t.held ≤ t.room + 1
  pub shows : Shows t first
  pub given : IsGiven t first

-- a line was given, or there was no memory
abbrev pub GivesLine : ℕ → ℕ → State → State → Result Next LineFault → Type 0
GivesLine size taken s t (Ok (next.Line n bytes)) = (n ≡ s.number + 1) × (bytes ≡ take size s.held) × (t ≡ record { number = s.number + 1; room = s.room - taken; held = drop taken s.held; kept = s.kept })
GivesLine size taken s t (Ok (next.TooLong n)) = ⊥
GivesLine size taken s t (Ok next.End) = ⊥
GivesLine size taken s t (Err fault.NoMemory) = t ≡ s
GivesLine size taken s t (Err fault.InputTooLong) = ⊥
GivesLine size taken s t (Err fault.ReadFault) = ⊥

-- what a call answers where nothing is left in the source; after a last line the end is kept
abbrev pub ComesLast : State → State → Result Next LineFault → Type 0
ComesLast s t (Ok (next.Line n bytes)) = (found s [] ≡ found_line n bytes none) × (t.room < s.room) × (t.number ≡ n) × (t.held ≡ []) × (t.kept ≡ ended)
ComesLast s t (Ok (next.TooLong n)) = ⊥
ComesLast s t (Ok next.End) = (found s [] ≡ found_end) × (t ≡ s)
ComesLast s t (Err fault.NoMemory) = t ≡ s
ComesLast s t (Err fault.InputTooLong) = ⊥
ComesLast s t (Err fault.ReadFault) = ⊥

-- what is kept when an answer is found: the end, where it is a last line without LF
abbrev pub Closes : Kept → Kept → Result Next LineFault → Type 0
Closes old new (Ok (next.Line n bytes)) = (new ≡ old) ⊎ (new ≡ ended)
Closes old new (Ok (next.TooLong n)) = new ≡ old
Closes old new (Ok next.End) = new ≡ old
Closes old new (Err e) = new ≡ old

-- more bytes are held
pub record Fill (before after : Device) (s t : State) (count : ℕ) : Type 0 where
  pub gains : Gains before after s.held t.held count
  pub number : t.number ≡ s.number
  pub room : t.room ≡ s.room
  pub kept : t.kept ≡ s.kept
  pub piece : count ≤ max_read

abbrev pub Fills : Device → Device → State → State → Result ℕ LineFault → Type 0
Fills before after s t (Ok count) = Fill before after s t count
Fills before after s t (Err fault.ReadFault) = (t ≡ s) × Keeps before.bytes after.bytes × Fails before after
Fills before after s t (Err fault.InputTooLong) = ⊥
Fills before after s t (Err fault.NoMemory) = (t ≡ s) × (after ≡ before)
