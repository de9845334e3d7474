-- Unions: structs of which one field should stand, the member.
use Rattle.std.specs.Prelude.{ℕ, ◌==◌, Bool, true, false, not, ◌||◌, if◌then◌else◌, List, [], ◌∷◌, slice_set, slice_index_or, ℤ, pos, Option, None, is_some, unwrap_or}
use Rattle.std.specs.Ordering.{int_eq}
use Rattle.thrift_compact.specs.Trees.{Value}
use Rattle.schema_elements.specs.declared.unions.Inside.{Inside}
use Rattle.schema_elements.specs.declared.unions.UnionSlots.{UnionSlots}

-- a member that holds nothing that is kept
abbrev pub nothing : Inside
nothing = record { first = None; second = None }

abbrev pub none_seen : List Bool
none_seen = false ∷ false ∷ false ∷ false ∷ false ∷ false ∷ false ∷ false ∷ false ∷ false ∷ false ∷ false ∷ false ∷ false ∷ false ∷ false ∷ false ∷ []

abbrev pub none_met : UnionSlots
none_met = record { member = 0; seen = none_seen; broken = false; inside = nothing }

-- a member that was seen before, or can't be read, breaks the union
abbrev pub is_broken_by : UnionSlots → ℕ → Option Inside → Bool
is_broken_by d i read = d.broken || slice_index_or d.seen i false || not (is_some read)

-- the slots after member i, of which `read` is what it holds: the first member counts
unfoldable pub met : UnionSlots → ℕ → Option Inside → UnionSlots
met d i read = record {
  member = if d.member == 0 then i else d.member;
  seen = slice_set d.seen i true;
  broken = is_broken_by d i read;
  inside = if d.member == 0 then unwrap_or read d.inside else d.inside;
}

-- field `id`, where it is member i
abbrev pub member_at : ℕ → (Value → Option Inside) → ℤ → Value → UnionSlots → UnionSlots → UnionSlots
member_at i read id v d others = if int_eq id (pos i) then met d i (read v) else others
