use Rattle.std.proofs.Common.{◌≡◌, ◌++◌, map, drop}
use Rattle.shred_schema.specs.Groups.{groups_from}
use Rattle.shred_schema.specs.Views.{named}
use Rattle.written_columns.specs.Written.{field_elements}
use Rattle.written_columns.proofs.schemas.+elements.Given as goal

abbrev pub invariant-put_fields-loop-k : goal.invariant-put_fields-loop-k
invariant-put_fields-loop-k l = l.into ++ field_elements (groups_from (map named (drop l.k l.fields))) ≡ l.initial.into ++ field_elements (groups_from (map named l.fields))
