-- What the buffer of a reader of lines shows.
use Rattle.std.specs.Prelude.{ℕ, ◌≤◌, List, vec_len}
use Rattle.memchr.specs.Find.{Nowhere, Passes, is_byte}
use Rattle.json_lines.specs.declared.read_buffer.Buffer.TheInside.{Inside}

-- the greatest number of bytes that a read takes
abbrev pub max_read : ℕ
max_read = 65536

-- the held bytes, how many places stand free after them, and how many before them
pub record Buffered : Type 0 where
  pub held : List ℕ
  pub free : ℕ
  pub passed : ℕ

-- the indices are in order, a whole piece has room, and no LF stands among the bytes that were searched
pub record IsOrderly (b : Inside) : Type 0 where
  pub start : b.start ≤ b.searched
  pub searched : b.searched ≤ b.end
  pub end : b.end ≤ vec_len b.bytes
  pub piece : max_read ≤ vec_len b.bytes
  pub plain : Nowhere (Passes (is_byte 10) b.bytes.items) b.start b.searched
