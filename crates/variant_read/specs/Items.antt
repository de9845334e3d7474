-- What the bytes of an object or array hold, as a list.
use Rattle.std.specs.Prelude.{ℕ, List, [], map, drop, Result, Ok, Err}
use Rattle.json_tree.specs.Json.{Json}
use Rattle.vs_bytes.specs.declared.rule.Rule.{Rule}
use Rattle.variant_read.specs.Layout.{offset, region}
use Rattle.variant_read.specs.Meaning.{entries, items_at, members_from, value_within}

-- the items, inside which arrays and objects may nest `room` deep, or the first rule that one violates
unfoldable pub items_in : List (List ℕ) → ℕ → List ℕ → Result (List Json) Rule
items_in names room bytes = items_at (value_within names room) (region bytes) 0 (entries names bytes)

abbrev pub or_none : Result (List Json) Rule → List Json
or_none (Ok items) = items
or_none (Err rule) = []

unfoldable pub items_held : List (List ℕ) → ℕ → List ℕ → List Json
items_held names room bytes = or_none (items_in names room bytes)

-- an object's items with their names
unfoldable pub members_held : List (List ℕ) → ℕ → List ℕ → List (List ℕ × Json)
members_held names room bytes = members_from names bytes 0 (items_held names room bytes)

-- the bytes from item k on, up to the end of the items
unfoldable pub item_bytes : List ℕ → ℕ → List ℕ
item_bytes bytes k = drop (offset bytes k) (region bytes)

abbrev pub member_names : List (List ℕ × Json) → List (List ℕ)
member_names members = map (λ member. member.0) members

abbrev pub member_values : List (List ℕ × Json) → List Json
member_values members = map (λ member. member.1) members
