use Rattle.std.proofs.Common.{◌≡◌, ◌+◌, ◌-◌, ◌*◌, map}
use Rattle.byte_parsing.specs.Parse.{read_as}
use Rattle.shred_schema.specs.Views.{named}
use Rattle.schema_parsing.specs.Grammar.{fields_in}
use Rattle.schema_parsing.specs.Reading.{fields_at, schema_at}
use Rattle.schema_parsing.proofs.ReaderParts.{ahead}
use Rattle.schema_parsing.proofs.reader.+reader.Given as goal

abbrev pub decreases-read_schema : goal.decreases-read_schema
decreases-read_schema l = 4 * l.room + 1

abbrev pub decreases-read_braced : goal.decreases-read_braced
decreases-read_braced l = 4 * l.room

abbrev pub decreases-read_bracketed : goal.decreases-read_bracketed
decreases-read_bracketed l = 4 * l.room

abbrev pub decreases-read_field : goal.decreases-read_field
decreases-read_field l = 4 * l.room + 2

abbrev pub decreases-read_fields : goal.decreases-read_fields
decreases-read_fields l = 4 * l.room + 3

abbrev pub invariant-read_fields-loop-turn : goal.invariant-read_fields-loop-turn
invariant-read_fields-loop-turn l = read_as fields_in (fields_at (λ xs. schema_at l.room xs) l.fn.text) ≡ ahead (λ xs. schema_at l.room xs) (map named l.fields) (l.turn-end - l.turn) l.rest
