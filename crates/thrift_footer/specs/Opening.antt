-- Opening a file (the parquet-format README, "File format"). A file begins with the magic number `PAR1`. It ends with
-- the footer, the footer's length in four bytes, little-endian, and the magic number again.
use Rattle.std.specs.Prelude.{◌≡◌, ℕ, ◌-◌, nat_lt, ◌&&◌, ◌||◌, not, if◌then◌else◌, List, [], ◌∷◌, ◌++◌, length, bytes_eq, Option, None, Some, Result, Ok, Err}
use Rattle.std.specs.FinMap.{get}
use Rattle.vs_bytes.specs.Numbers.{number, part}
use Rattle.vs_bytes.specs.Outcome.{◌>>=◌}
use Rattle.vs_bytes.specs.declared.rule.Rule.{Rule}
use Rattle.vs_bytes.specs.declared.rule.Rule.TheVariants.{NotParquet, FooterLength}
use Rattle.shelf.specs.Storage.{Files, Storage, Lacks, FailsRead, Misses}
use Rattle.shelf.specs.declared.byte_range.ByteRange.{ByteRange}
use Rattle.shelf.specs.Calls.{with_ranges}
use Rattle.footer_structs.specs.FileEnds.{magic, footer_limit}
use Rattle.footer_structs.specs.ReadFooters.{footer}
use Rattle.footer_structs.specs.declared.file_metadata.FileMeta.{FileMeta}
use Rattle.thrift_footer.specs.declared.opening.Opened.{Opened}
use Rattle.thrift_footer.specs.declared.opening.OpenFault.{OpenFault}
use Rattle.thrift_footer.specs.declared.opening.OpenFault.TheVariants.{Absent, Failed, Refused, NoMemory}

-- the magic number at both ends, and the footer's length
abbrev pub least_len : ℕ
least_len = 12

-- the footer's length and the magic number after it
abbrev pub tail_len : ℕ
tail_len = 8

-- how long the footer is, by the file's length, its first 4 bytes and its last 8
unfoldable pub footer_size : ℕ → List ℕ → List ℕ → Result ℕ Rule
footer_size len front tail =
    if not (bytes_eq front magic && bytes_eq (part tail 4 4) magic) then Err NotParquet
    else if nat_lt footer_limit (number tail 0 4) || nat_lt (len - least_len) (number tail 0 4) then Err FooterLength
    else Ok (number tail 0 4)

-- how long a file's footer is
unfoldable pub size_in : List ℕ → Result ℕ Rule
size_in file =
    if nat_lt (length file) least_len then Err NotParquet
    else footer_size (length file) (part file 0 4) (part file (length file - tail_len) tail_len)

-- where a footer of a size begins
abbrev pub begin_of : ℕ → ℕ → ℕ
begin_of len size = len - tail_len - size

abbrev pub opened : ℕ → ℕ → FileMeta → Opened
opened len size meta = record { meta = meta; length = len; end = begin_of len size }

-- what is known of a file that was opened, or the first rule that it violates
unfoldable pub opening : List ℕ → Result Opened Rule
opening file = size_in file >>= λ size. footer (part file (begin_of (length file) size) size) >>= λ meta. Ok (opened (length file) size meta)

-- The ranges that opening asks for: those of both ends, and the footer's where its length is good. A file that is too
-- short has none.

abbrev pub range : List ℕ → ℕ → ℕ → ByteRange
range name at size = record { name = name; at = at; size = size }

abbrev pub footer_ranges : List ℕ → ℕ → Result ℕ Rule → List ByteRange
footer_ranges name len (Ok size) = range name (begin_of len size) size ∷ []
footer_ranges name len (Err rule) = []

abbrev pub end_ranges : List ℕ → ℕ → List ByteRange
end_ranges name len = if nat_lt len least_len then [] else range name (len - tail_len) tail_len ∷ range name 0 4 ∷ []

abbrev pub opening_ranges : List ℕ → List ℕ → List ByteRange
opening_ranges name file = end_ranges name (length file) ++ footer_ranges name (length file) (size_in file)

-- What a call leaves.

-- the bytes of a file are known
pub record IsFile (files : Option Files) (name file : List ℕ) : Type 0 where
  pub map : Files
  pub known : files ≡ Some map
  pub there : get map name ≡ Some file

-- the files are known, and there is none of the name
pub record IsMissing (files : Option Files) (name : List ℕ) : Type 0 where
  pub map : Files
  pub known : files ≡ Some map
  pub absent : get map name ≡ None

-- a count goes with a fault
abbrev pub Leaves : {A : Type 0} → Storage → Storage → List ℕ → List ByteRange → Result A OpenFault → Type 0
Leaves before after name asked (Ok a) = after ≡ with_ranges before asked
Leaves before after name asked (Err Absent) = Lacks before.files name × Misses before.counts after.counts × (after ≡ record before { counts = after.counts })
Leaves before after name asked (Err Failed) = FailsRead before.counts after.counts × (after ≡ record (with_ranges before asked) { counts = after.counts })
Leaves before after name asked (Err (Refused rule)) = after ≡ with_ranges before asked
Leaves before after name asked (Err NoMemory) = after ≡ with_ranges before asked

-- all ranges of a plan were asked for, or the first ones where a read failed
abbrev pub Keeps : {A : Type 0} → List ByteRange → List ByteRange → Result A OpenFault → Type 0
Keeps asked plan (Ok a) = asked ≡ plan
Keeps asked plan (Err Absent) = ⊥
Keeps asked plan (Err Failed) = (rest : List ByteRange) × (plan ≡ asked ++ rest)
Keeps asked plan (Err (Refused rule)) = asked ≡ plan
Keeps asked plan (Err NoMemory) = (rest : List ByteRange) × (plan ≡ asked ++ rest)

-- a call asks for the ranges of a plan, which goes by the file's bytes
pub record Asks {A : Type 0} (before after : Storage) (name : List ℕ) (plan : List ℕ → List ByteRange) (result : Result A OpenFault) : Type 0 where
  pub asked : List ByteRange
  pub leaves : Leaves before after name asked result
  pub keeps : (file : List ℕ) → IsFile before.files name file → Keeps asked (plan file) result

-- a call gives what is defined for a file that is there, or names the rule; devices and memory may fail
abbrev pub Judges : {A : Type 0} → Result A Rule → Result A OpenFault → Type 0
Judges defined (Ok a) = defined ≡ Ok a
Judges defined (Err Absent) = ⊥
Judges defined (Err Failed) = Unit {0}
Judges defined (Err (Refused rule)) = defined ≡ Err rule
Judges defined (Err NoMemory) = Unit {0}

-- what a read gives: no rule is violated
abbrev pub IsRead : {A : Type 0} → Result A OpenFault → Type 0
IsRead (Ok a) = Unit {0}
IsRead (Err Absent) = ⊥
IsRead (Err Failed) = Unit {0}
IsRead (Err (Refused rule)) = ⊥
IsRead (Err NoMemory) = Unit {0}

-- the file is there
abbrev pub IsThere : {A : Type 0} → Result A OpenFault → Type 0
IsThere (Ok a) = Unit {0}
IsThere (Err Absent) = ⊥
IsThere (Err Failed) = Unit {0}
IsThere (Err (Refused rule)) = Unit {0}
IsThere (Err NoMemory) = Unit {0}

-- no file was opened, none is judged, and no range was asked for
abbrev pub IsUnopened : {A : Type 0} → Storage → Storage → Result A OpenFault → Type 0
IsUnopened before after (Ok a) = ⊥
IsUnopened before after (Err Absent) = after.touched ≡ before.touched
IsUnopened before after (Err Failed) = after.touched ≡ before.touched
IsUnopened before after (Err (Refused rule)) = ⊥
IsUnopened before after (Err NoMemory) = after.touched ≡ before.touched
