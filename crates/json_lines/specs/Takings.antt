-- What a call of `Lines::next` takes of what is ahead of it: the bytes that are held, and those that are
-- left in the source. What is said holds for every tail that the bytes taken could have had.
use Rattle.std.specs.Prelude.{◌≡◌, ◌⊎◌, ℕ, ◌+◌, ◌≤◌, List, [], ◌∷◌, ◌++◌, Option, Some, Result, Ok, Err, Contains, length, false}
use Rattle.json_lines.specs.Cut.{none, found_end, found_line, found_long, found_over, lines_of, first_line}
use Rattle.json_lines.specs.Next.{State, ended, found, is_decided}
use Rattle.json_lines.specs.declared.answer.Next.{Next}
use Rattle.json_lines.specs.declared.answer.Next.TheVariants as next
use Rattle.json_lines.specs.declared.answer.LineFault.{LineFault}
use Rattle.json_lines.specs.declared.answer.LineFault.TheVariants as fault

-- the bytes end in LF, or are none
abbrev pub AreWhole : List ℕ → Type 0
AreWhole bytes = (bytes ≡ []) ⊎ ((line : List ℕ) × (bytes ≡ line ++ 10 ∷ []))

-- blank lines were passed over from `s` to `t`: the bytes taken of those ahead are whole lines, and what
-- comes first after them is what came first
pub record Passed (s : State) (ahead : List ℕ) (t : State) (after : List ℕ) : Type 0 where
  pub taken : List ℕ
  pub splits : ahead ≡ taken ++ after
  pub counts : s.room ≡ t.room + length taken
  pub whole : AreWhole taken
  pub alike : (tail : List ℕ) → first_line t.number (lines_of t.room tail) ≡ first_line s.number (lines_of s.room (taken ++ tail))

-- the same with the source's bytes: `rest` was left, and `left` is
pub record PassedFrom (s : State) (rest : List ℕ) (t : State) (left : Option (List ℕ)) : Type 0 where
  pub read : List ℕ
  pub after : List ℕ
  pub is_left : left ≡ Some after
  pub reads : rest ≡ read ++ after
  pub passed : Passed s (s.held ++ rest) t (t.held ++ after)

-- blank lines and a line that isn't blank were taken, with their LFs
pub record Took (s : State) (ahead : List ℕ) (t : State) (after : List ℕ) (n : ℕ) (bytes : List ℕ) : Type 0 where
  pub taken : List ℕ
  pub splits : ahead ≡ taken ++ after
  pub counts : s.room ≡ t.room + length taken
  pub whole : AreWhole taken
  pub gives : (tail : List ℕ) → first_line s.number (lines_of s.room (taken ++ tail)) ≡ found_line n bytes (lines_of t.room tail)
  pub number : t.number ≡ n
  pub kept : t.kept ≡ s.kept

pub record TookFrom (s : State) (rest : List ℕ) (t : State) (left : Option (List ℕ)) (n : ℕ) (bytes : List ℕ) : Type 0 where
  pub after : List ℕ
  pub is_left : left ≡ Some after
  pub took : Took s (s.held ++ rest) t (t.held ++ after) n bytes

-- the last line was taken, which no LF ends: the source has ended, and that is kept
pub record TookLast (s : State) (rest : List ℕ) (t : State) (left : Option (List ℕ)) (n : ℕ) (bytes : List ℕ) : Type 0 where
  pub gives : found s rest ≡ found_line n bytes none
  pub at_end : left ≡ Some []
  pub number : t.number ≡ n
  pub held : t.held ≡ []
  pub kept : t.kept ≡ ended

-- a call at `s` that leaves `t`, where the source had `rest`, and no answer was kept
abbrev pub Comes : State → List ℕ → State → Option (List ℕ) → Result Next LineFault → Type 0
Comes s rest t left (Ok (next.Line n bytes)) = TookFrom s rest t left n bytes ⊎ TookLast s rest t left n bytes
Comes s rest t left (Ok (next.TooLong n)) = (found s rest ≡ found_long n) × PassedFrom s rest t left
Comes s rest t left (Ok next.End) = (found s rest ≡ found_end) × (left ≡ Some [])
Comes s rest t left (Err fault.InputTooLong) = (found s rest ≡ found_over) × PassedFrom s rest t left
-- every line whose LF was read has been given, and the bytes that were read don't decide the answer
Comes s rest t left (Err fault.ReadFault) = (Contains t.held 10 → ⊥) × (is_decided (lines_of t.room t.held) ≡ false) × PassedFrom s rest t left
Comes s rest t left (Err fault.NoMemory) = PassedFrom s rest t left

-- what was read of the source, with what was held, is at most one byte more than still counts
pub record IsBounded (s : State) (rest : List ℕ) (left : Option (List ℕ)) : Type 0 where
  pub read : List ℕ
  pub after : List ℕ
  pub is_left : left ≡ Some after
  pub reads : rest ≡ read ++ after
  pub most : length s.held + length read ≤ s.room + 1

-- both, for an answer that isn't yet kept
pub record Arrives (s : State) (rest : List ℕ) (t : State) (left : Option (List ℕ)) (answer : Result Next LineFault) : Type 0 where
  pub comes : Comes s rest t left answer
  pub bounded : IsBounded s rest left
