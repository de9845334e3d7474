use Rattle.std.proofs.Common.{◌≡◌, map, length}
use Rattle.vs_bytes.specs.Names.{repeats}
use Rattle.shred_schema.specs.Views.{named}
use Rattle.schema_parsing.specs.Grammar.{names_of}
use Rattle.schema_parsing.proofs.fields.names_repeat.Given as goal

abbrev pub invariant-loop-rest : goal.invariant-loop-rest
invariant-loop-rest l = repeats (names_of (map named l.rest)) ≡ repeats (names_of (map named l.fn.fields))

abbrev pub decreases-loop-rest : goal.decreases-loop-rest
decreases-loop-rest l = length l.rest
