-- What a call of `Lines::next` answers, and the state that it leaves.
use Rattle.std.specs.Prelude.{◌≡◌, ◌⊎◌, ℕ, ◌<◌, List, ◌++◌, Result, Ok, Err, Bool, true, false, not, ◌||◌}
use Rattle.outside.specs.Devices.{Device, IsCalm, Fails}
use Rattle.json_lines.specs.Cut.{Lines, none, last, line, Found, found_end, found_line, found_long, found_over, lines_of, first_line, is_long, is_blank}
use Rattle.json_lines.specs.Cut as cut
use Rattle.json_lines.specs.declared.answer.Next.{Next}
use Rattle.json_lines.specs.declared.answer.Next.TheVariants as next
use Rattle.json_lines.specs.declared.answer.LineFault.{LineFault}
use Rattle.json_lines.specs.declared.answer.LineFault.TheVariants as fault

-- the answer that every later call repeats
pub data Kept : Type 0 where
  nothing : Kept
  ended : Kept
  long : ℕ → Kept
  over : Kept
  failed : Kept

-- what a `Lines` shows
pub record State : Type 0 where
  -- how many lines were given or passed over
  pub number : ℕ
  -- how many bytes from the held ones on still count
  pub room : ℕ
  -- the bytes that were read and not yet given
  pub held : List ℕ
  pub kept : Kept

-- the lines that are still to come, where `rest` is left in the source
abbrev pub lines_ahead : State → List ℕ → Lines
lines_ahead s rest = lines_of s.room (s.held ++ rest)

-- what the next call is to find
abbrev pub found : State → List ℕ → Found
found s rest = first_line s.number (lines_ahead s rest)

-- whether the held bytes decide the answer, whatever follows them
abbrev pub is_decided : Lines → Bool
is_decided none = false
is_decided (last l) = is_long l
is_decided (cut.over l) = true
is_decided (line l ls) = is_long l || not (is_blank l) || is_decided ls

-- the kept answer, given again
abbrev pub Repeats : Kept → Result Next LineFault → Type 0
Repeats nothing result = Unit {0}
Repeats ended result = result ≡ Ok next.End
Repeats (long n) result = result ≡ Ok (next.TooLong n)
Repeats over result = result ≡ Err fault.InputTooLong
Repeats failed result = result ≡ Err fault.ReadFault

-- what is kept after an answer, where `kept` was kept when it was found
abbrev pub kept_next : Result Next LineFault → Kept → Kept
kept_next (Ok (next.Line n bytes)) kept = kept
kept_next (Ok (next.TooLong n)) kept = long n
kept_next (Ok next.End) kept = ended
kept_next (Err fault.InputTooLong) kept = over
kept_next (Err fault.ReadFault) kept = failed
kept_next (Err fault.NoMemory) kept = kept

-- what a call leaves kept: after a last line without LF, that the input has ended
abbrev pub IsKept : Kept → Kept → Result Next LineFault → Type 0
IsKept old new (Ok (next.Line n bytes)) = (new ≡ old) ⊎ (new ≡ ended)
IsKept old new (Ok (next.TooLong n)) = new ≡ long n
IsKept old new (Ok next.End) = new ≡ ended
IsKept old new (Err fault.InputTooLong) = new ≡ over
IsKept old new (Err fault.ReadFault) = new ≡ failed
IsKept old new (Err fault.NoMemory) = new ≡ old

-- which calls count a fault of the source
abbrev pub Counted : Device → Device → Result Next LineFault → Type 0
Counted before after (Ok found) = IsCalm before after
Counted before after (Err fault.ReadFault) = Fails before after
Counted before after (Err fault.InputTooLong) = IsCalm before after
Counted before after (Err fault.NoMemory) = IsCalm before after

-- a line takes at least one byte of what still counts
abbrev pub LeavesLess : State → State → Result Next LineFault → Type 0
LeavesLess s t (Ok (next.Line n bytes)) = t.room < s.room
LeavesLess s t (Ok (next.TooLong n)) = Unit {0}
LeavesLess s t (Ok next.End) = Unit {0}
LeavesLess s t (Err e) = Unit {0}
