use Rattle.std.proofs.Common.{◌≡◌, ◌++◌, map, drop}
use Rattle.shred_schema.specs.Groups.{groups_from}
use Rattle.shred_schema.specs.Views.{named}
use Rattle.written_columns.specs.Written.{field_paths}
use Rattle.written_columns.proofs.paths.+paths.Given as goal

abbrev pub invariant-put_fields-loop-k : goal.invariant-put_fields-loop-k
invariant-put_fields-loop-k l = l.into ++ field_paths (groups_from (map named (drop l.k l.fields))) l.way ≡ l.initial.into ++ field_paths (groups_from (map named l.fields)) l.way
