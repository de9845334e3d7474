use Rattle.std.proofs.Common.{◌≡◌, ◌-◌, length}
use Rattle.thrift_compact.specs.Numbers.{mapped}
use Rattle.thrift_compact.specs.Trees.{fields_at, struct_at, known_at}
use Rattle.thrift_compact.specs.Slots.{filled}
use Rattle.thrift_structs.proofs.drafts.read_fields.Given as goal

-- what the fields that are left fill, after those that were read
abbrev pub invariant-loop-turn : goal.invariant-loop-turn
invariant-loop-turn g l =
    mapped (filled g.D.Draft.put l.held) (fields_at (known_at g.D.Draft.shapes) (length l.bytes - l.turn) l.last l.rest)
    ≡ mapped (filled g.D.Draft.put g.D.Draft.start) (struct_at (known_at g.D.Draft.shapes) l.bytes)
