-- What the parser's parts read, and the room that is left for leaves.
use Rattle.std.specs.Prelude.{nat_le, ℕ, ◌-◌, zero, suc, if◌then◌else◌, Option, Some, None}
use Rattle.byte_parsing.specs.Parse.{Parse}
use Rattle.schema_parsing.specs.Grammar.{SchemaSyntax}
use Rattle.schema_parsing.specs.Reading.{schema_at, braced_at, bracketed_at}

-- After a brace and after a bracket, while so many of them may still be opened.

abbrev pub braced_within : ℕ → Parse SchemaSyntax
braced_within zero xs = None
braced_within (suc depth) xs = braced_at (λ ys. schema_at depth ys) xs

abbrev pub bracketed_within : ℕ → Parse SchemaSyntax
bracketed_within zero xs = None
bracketed_within (suc depth) xs = bracketed_at (λ ys. schema_at depth ys) xs

-- the room that `count` takes off, where there is so much
abbrev pub room_left : ℕ → ℕ → Option ℕ
room_left room count = if nat_le count room then Some (room - count) else None
