-- Objects and arrays, judged item by item.
use Rattle.std.specs.Prelude.{◌≡◌, ℕ, ◌+◌, ◌-◌, ◌<◌, ◌≤◌, nat_lt, if◌then◌else◌, List, length, drop, None, Result, Ok, Err}
use Rattle.vs_bytes.specs.Outcome.{◌>>=◌}
use Rattle.vs_bytes.specs.declared.rule.Rule.{Rule}
use Rattle.vs_bytes.specs.declared.rule.Rule.TheVariants.{Offsets}
use Rattle.variant_read.specs.Layout.{count, field_id, region, container_size}
use Rattle.variant_read.specs.Primitives.{Kind}
use Rattle.variant_read.specs.Meaning.{field_fault, unless_fault, entries_from, items_at, size_in}

-- how long the items are together with the one at an offset, where the earlier ones are `used` bytes long
unfoldable pub used_with : Kind → List ℕ → ℕ → ℕ → Result ℕ Rule
used_with value region used offset =
    if nat_lt (length region) offset then Err Offsets else
    size_in (value (drop offset region)) >>= λ n.
    if nat_lt (length region) (used + n) then Err Offsets else Ok (used + n)

-- the size of the whole, or the first rule that an item from item k on violates. The earlier ones are `used` bytes
-- long together
unfoldable pub size_from : Kind → List (List ℕ) → List ℕ → ℕ → ℕ → Result ℕ Rule
size_from value names bytes k used = items_at value (region bytes) used (entries_from names bytes k (count bytes - k)) >>= λ _. Ok (container_size bytes)

-- the id of field k, or the rule that it violates
unfoldable pub allowed_id : List (List ℕ) → List ℕ → ℕ → Result ℕ Rule
allowed_id names bytes k = unless_fault (field_fault names bytes k) >>= λ _. Ok (field_id bytes k)

-- no id of the first `len` items violates a rule
abbrev pub AllAllowed : List (List ℕ) → List ℕ → ℕ → Type 0
AllAllowed names bytes len = (j : ℕ) → j < len → field_fault names bytes j ≡ None

-- the ids of the first items violate no rule, and the whole is `end` once the values of these are judged too
pub record IdsJudged (names : List (List ℕ)) (bytes : List ℕ) (len : ℕ) (end : Result ℕ Rule) : Type 0 where
  pub most : len ≤ count bytes
  pub allowed : AllAllowed names bytes len
  pub after : (value : Kind) (used : ℕ) → size_from value names bytes len used ≡ end
