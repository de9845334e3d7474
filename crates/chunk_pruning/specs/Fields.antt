-- Fields by their names.
use Rattle.std.specs.Prelude.{ℕ, ◌+◌, List, Option, Some, None, if◌then◌else◌, bytes_eq}
use Rattle.shred_schema.specs.Groups.{Group, Groups, no_groups, field, width}

-- the first field of a name, with its first leaf, where the leaves of the fields begin at leaf k
abbrev pub field_at : List ℕ → Groups → ℕ → Option (Group × ℕ)
field_at name no_groups k = None
field_at name (field m n gs) k = if bytes_eq m name then Some (n, k) else field_at name gs (k + width n)
