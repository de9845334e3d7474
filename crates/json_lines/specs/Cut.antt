-- The lines of an input, by recursion over its bytes. The reader's buffer and cursor have no place here.
use Rattle.std.specs.Prelude.{◌==◌, nat_le, nat_lt, ℕ, ◌+◌, ◌-◌, List, [], ◌∷◌, Bool, cond, ◌&&◌, ◌||◌, length}
use Rattle.std.specs.List.{list_all}

-- what an input is cut into
pub data Lines : Type 0 where
  -- no more lines
  none : Lines
  -- a last line, which no LF ends
  last : List ℕ → Lines
  -- a line that isn't ended where the limit of the input is reached, though the input goes on
  over : List ℕ → Lines
  -- a line that an LF ends, and the lines after it
  line : List ℕ → Lines → Lines

-- one more byte at the front of the first line
abbrev pub prepended : ℕ → Lines → Lines
prepended x none = last (x ∷ [])
prepended x (last l) = last (x ∷ l)
prepended x (over l) = over (x ∷ l)
prepended x (line l ls) = line (x ∷ l) ls

-- the lines of an input of which at most `room` bytes count
unfoldable pub lines_of : ℕ → List ℕ → Lines
lines_of room [] = none
lines_of room (x ∷ xs) = cond (room == 0) (over []) (cond (x == 10) (line [] (lines_of (room - 1) xs)) (prepended x (lines_of (room - 1) xs)))

-- the greatest number of bytes of a line
abbrev pub max_line : ℕ
max_line = 1048576

abbrev pub is_long : List ℕ → Bool
is_long l = nat_lt max_line (length l)

-- white space within a line: space, tab, CR
abbrev pub is_blank_byte : ℕ → Bool
is_blank_byte x = (x == 32) || (x == 9) || (x == 13)

-- a line that is passed over, though counted
abbrev pub is_blank : List ℕ → Bool
is_blank l = nat_le (length l) max_line && list_all is_blank_byte l

-- what comes first that isn't blank
pub data Found : Type 0 where
  found_end : Found
  found_line : ℕ → List ℕ → Lines → Found
  found_long : ℕ → Found
  found_over : Found

abbrev pub judged : ℕ → List ℕ → Lines → Found → Found
judged n l behind passed = cond (is_long l) (found_long n) (cond (is_blank l) passed (found_line n l behind))

-- the first line that isn't blank, with its number and the lines after it, where n lines came before
abbrev pub first_line : ℕ → Lines → Found
first_line n none = found_end
first_line n (last l) = judged (n + 1) l none found_end
first_line n (over l) = cond (is_long l) (found_long (n + 1)) found_over
first_line n (line l ls) = judged (n + 1) l ls (first_line (n + 1) ls)
