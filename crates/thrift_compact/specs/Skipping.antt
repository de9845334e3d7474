-- Values of the Thrift compact protocol that are passed over: the bytes after a value of a type.
--
-- Structs, lists, sets and maps may nest to a limit, the outermost counted.
use Rattle.std.specs.Prelude.{ℕ, zero, suc, ◌==◌, nat_lt, nat_le, if◌then◌else◌, List, length, ℤ, pos, Option, Some, None, Result, Ok, Err}
use Rattle.vs_bytes.specs.Outcome.{◌>>=◌}
use Rattle.vs_bytes.specs.declared.rule.Rule.{Rule}
use Rattle.vs_bytes.specs.declared.rule.Rule.TheVariants.{Thrift}
use Rattle.thrift_compact.specs.Numbers.{Read, byte, signed, bytes_at, binary}
use Rattle.thrift_compact.specs.Headers.{is_type, field, list, map_size, map_types}

-- the bytes after what is read
abbrev pub after : {A : Type 0} → Read A → Result (List ℕ) Rule
after (Ok read) = Ok read.1
after (Err fault) = Err fault

-- the bytes after a value of a type
abbrev pub After : Type 0
After = ℕ → List ℕ → Result (List ℕ) Rule

-- how deep values that are passed over may nest
abbrev pub max_nesting : ℕ
max_nesting = 32

-- a value of a type below 9. A truth value of a field stands in the field's header
unfoldable pub plain : ℕ → List ℕ → Result (List ℕ) Rule
plain kind bytes =
    if nat_le kind 2 then Ok bytes
    else if kind == 3 then after (byte bytes)
    else if kind == 4 then after (signed 16 bytes)
    else if kind == 5 then after (signed 32 bytes)
    else if kind == 6 then after (signed 64 bytes)
    else if kind == 7 then after (bytes_at 8 bytes)
    else after (binary bytes)

-- an element of a list, set or map: a truth value is one byte
unfoldable pub element : After → ℕ → List ℕ → Result (List ℕ) Rule
element inside kind bytes = if nat_le kind 2 then after (byte bytes) else inside kind bytes

unfoldable pub elements : After → ℕ → ℕ → List ℕ → Result (List ℕ) Rule
elements inside kind zero bytes = Ok bytes
elements inside kind (suc size) bytes = element inside kind bytes >>= elements inside kind size

unfoldable pub pairs : After → ℕ → ℕ → ℕ → List ℕ → Result (List ℕ) Rule
pairs inside key value zero bytes = Ok bytes
pairs inside key value (suc size) bytes =
    element inside key bytes >>= element inside value >>= pairs inside key value size

unfoldable pub map_after : After → ℕ → Option (ℕ × ℕ) → List ℕ → Result (List ℕ) Rule
map_after inside size None bytes = Ok bytes
map_after inside size (Some kinds) bytes = pairs inside kinds.0 kinds.1 size bytes

-- the rest of a field, then the fields after it
abbrev pub field_after : After → (ℤ → List ℕ → Result (List ℕ) Rule) → Option (ℤ × ℕ) → List ℕ → Result (List ℕ) Rule
field_after inside more None bytes = Ok bytes
field_after inside more (Some head) bytes = inside head.1 bytes >>= more head.0

-- at most `most` fields, and the stop
unfoldable pub fields : After → ℕ → ℤ → List ℕ → Result (List ℕ) Rule
fields inside zero last bytes = Err Thrift
fields inside (suc most) last bytes = field last bytes >>= λ f. field_after inside (fields inside most) f.0 f.1

unfoldable pub map_of : After → List ℕ → Result (List ℕ) Rule
map_of inside bytes = map_size bytes >>= λ n. map_types n.0 n.1 >>= λ t. map_after inside n.0 t.0 t.1

unfoldable pub list_of : After → List ℕ → Result (List ℕ) Rule
list_of inside bytes = list bytes >>= λ l. elements inside l.0.0 l.0.1 l.1

-- a struct, list, set or map. Each field of a struct has a byte
unfoldable pub container : After → ℕ → List ℕ → Result (List ℕ) Rule
container inside kind bytes =
    if kind == 12 then fields inside (length bytes) (pos 0) bytes
    else if kind == 11 then map_of inside bytes
    else list_of inside bytes

unfoldable pub level : After → ℕ → List ℕ → Result (List ℕ) Rule
level inside kind bytes = if is_type kind then (if nat_lt kind 9 then plain kind bytes else inside kind bytes) else Err Thrift

-- the bytes after a value of a type that nests to `room`
unfoldable pub skipped : ℕ → ℕ → List ℕ → Result (List ℕ) Rule
skipped zero = level (λ kind bytes. Err Thrift)
skipped (suc room) = level (container (skipped room))
