-- What a call of a shelf leaves, by cases on its answer.
use Rattle.std.specs.Prelude.{◌≡◌, ℕ, ◌≤◌, List, [], ◌∷◌, ◌++◌, length, take, Result, Ok, Err, ◌⊎◌}
use Rattle.shelf.specs.Storage.{Storage, Has, Lacks, IsLong, Shows, with_file, appended, FailsRead, FailsWrite, Misses, Clashes}
use Rattle.shelf.specs.declared.byte_range.ByteRange.{ByteRange}
use Rattle.shelf.specs.declared.shelf.ShelfError.{ShelfError}
use Rattle.shelf.specs.declared.shelf.ShelfError.TheVariants.{Absent, Taken, Failed, NoMemory}

-- nothing changed but the counts
abbrev pub IsCounted : Storage → Storage → Type 0
IsCounted before after = after ≡ record before { counts = after.counts }

-- the length of a file
abbrev pub Measures : Storage → Storage → List ℕ → Result ℕ ShelfError → Type 0
Measures before after name (Ok size) = IsLong before.files name size × (after ≡ before)
Measures before after name (Err Absent) = Lacks before.files name × Misses before.counts after.counts × IsCounted before after
Measures before after name (Err Taken) = ⊥
Measures before after name (Err Failed) = FailsRead before.counts after.counts × IsCounted before after
Measures before after name (Err NoMemory) = after ≡ before

-- one more range was asked for
abbrev pub with_range : Storage → ByteRange → Storage
with_range s range = record s { touched = s.touched ++ range ∷ [] }

-- more ranges were asked for, in order
abbrev pub with_ranges : Storage → List ByteRange → Storage
with_ranges s ranges = record s { touched = s.touched ++ ranges }

-- a read of a range, after which `into` holds what was read
abbrev pub Reads : Storage → Storage → ByteRange → List ℕ → Result (Unit {0}) ShelfError → Type 0
Reads before after range into (Ok _) = Shows before.files range.name range.at into × (after ≡ with_range before range)
Reads before after range into (Err Absent) = ⊥
Reads before after range into (Err Taken) = ⊥
Reads before after range into (Err Failed) = FailsRead before.counts after.counts × IsCounted (with_range before range) after
Reads before after range into (Err NoMemory) = (after ≡ before) ⊎ (after ≡ with_range before range)

-- a new file without bytes
abbrev pub Creates : Storage → Storage → List ℕ → Result (Unit {0}) ShelfError → Type 0
Creates before after name (Ok _) = Lacks before.files name × (after ≡ record before { files = with_file before.files name [] })
Creates before after name (Err Absent) = ⊥
Creates before after name (Err Taken) = Has before.files name × Clashes before.counts after.counts × IsCounted before after
Creates before after name (Err Failed) = FailsWrite before.counts after.counts × IsCounted before after
Creates before after name (Err NoMemory) = after ≡ before

-- the file gained the first of some bytes
abbrev pub with_prefix : Storage → List ℕ → List ℕ → ℕ → Storage
with_prefix s name bytes k = record s { files = appended s.files name (take k bytes) }

-- bytes at the end of a file, after whose refusal the first of them may stand there
abbrev pub Adds : Storage → Storage → List ℕ → List ℕ → Result (Unit {0}) ShelfError → Type 0
Adds before after name bytes (Ok _) = after ≡ record before { files = appended before.files name bytes }
Adds before after name bytes (Err Absent) = ⊥
Adds before after name bytes (Err Taken) = ⊥
Adds before after name bytes (Err Failed) = (k : ℕ) × (k ≤ length bytes) × FailsWrite before.counts after.counts × IsCounted (with_prefix before name bytes k) after
Adds before after name bytes (Err NoMemory) = (k : ℕ) × (k ≤ length bytes) × (after ≡ with_prefix before name bytes k)
