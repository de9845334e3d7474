-- What a `Reader` shows.
use Rattle.std.specs.Prelude.{◌≡◌, ℕ, ◌-◌, List, length, ℤ, Option, Some, None}
use Rattle.thrift_compact.specs.declared.reader.Reader.{Reader}

-- the bytes that are ahead
unfoldable pub ahead : Reader → List ℕ
ahead reader = reader.rest.now

-- the id of the last field of the innermost struct, or 0 where none was read
unfoldable pub last_id : Reader → ℤ
last_id reader = reader.last

-- all the bytes that it was made of
unfoldable pub all_bytes : Reader → List ℕ
all_bytes reader = reader.bytes.now

-- how many bytes were read
unfoldable pub place : Reader → ℕ
place reader = length (all_bytes reader) - length (ahead reader)

-- the reader stands in the same struct of the same bytes
pub record StandsAsBefore (old new : Reader) : Type 0 where
  pub last : last_id new ≡ last_id old
  pub bytes : all_bytes new ≡ all_bytes old

-- the last id after a field's header. The stop leaves it
abbrev pub id_after : Option (ℤ × ℕ) → ℤ → ℤ
id_after None last = last
id_after (Some head) last = head.0
