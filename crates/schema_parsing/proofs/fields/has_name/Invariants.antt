use Rattle.std.proofs.Common.{◌≡◌, map, length}
use Rattle.std.specs.List.{list_any}
use Rattle.std.specs.Str.{bytes_eq}
use Rattle.shred_schema.specs.Views.{named}
use Rattle.schema_parsing.specs.Grammar.{names_of}
use Rattle.schema_parsing.proofs.fields.has_name.Given as goal

abbrev pub invariant-loop-rest : goal.invariant-loop-rest
invariant-loop-rest l = list_any (λ other. bytes_eq other l.name) (names_of (map named l.rest)) ≡ list_any (λ other. bytes_eq other l.name) (names_of (map named l.fn.fields))

abbrev pub decreases-loop-rest : goal.decreases-loop-rest
decreases-loop-rest l = length l.rest
