-- Members of a union.
use Rattle.std.proofs.Common.{◌≡◌, ap, ℕ, Option, None}
use Rattle.thrift_compact.specs.Trees.{Value, other}
use Rattle.schema_elements.specs.Unions.{met}
use Rattle.schema_elements.specs.declared.unions.Inside.{Inside}
use Rattle.schema_elements.specs.declared.unions.UnionSlots.{UnionSlots}

-- a value that was passed over breaks the union
pub met_other : (read : Value → Option Inside) (d : UnionSlots) (i : ℕ) → read other ≡ None → met d i (read other) ≡ met d i None
met_other read d i e = ap (λ (x : Option Inside). met d i x) e
