-- Numbers and bytes of the Thrift compact protocol (thrift-compact-protocol.md, "Integer encoding", "Binary
-- encoding"): varints have seven bits a byte, the lowest first, and the highest bit of a byte says that more
-- follow. Signed numbers are varints in zigzag: 0, -1, 1, -2, and so on.
use Rattle.std.specs.Prelude.{ℕ, zero, suc, ◌+◌, ◌-◌, ◌*◌, ◌/◌, ◌%◌, ◌^◌, ◌==◌, nat_lt, nat_le, Bool, if◌then◌else◌, List, [], ◌∷◌, length, take, drop, ℤ, pos, negsuc, Result, Ok, Err}
use Rattle.vs_bytes.specs.Outcome.{◌>>=◌}
use Rattle.vs_bytes.specs.declared.rule.Rule.{Rule}
use Rattle.vs_bytes.specs.declared.rule.Rule.TheVariants.{Thrift}

-- what the first bytes mean, and the bytes after them
abbrev pub Read : Type 0 → Type 0
Read A = Result (A × List ℕ) Rule

-- what was read, where it is in its range
abbrev pub within : {A : Type 0} → Bool → A → Result A Rule
within fits read = if fits then Ok read else Err Thrift

-- what was read, seen through `view`
abbrev pub mapped : {A B : Type 0} → (A → B) → Read A → Read B
mapped view (Ok read) = Ok (view read.0, read.1)
mapped view (Err fault) = Err fault

abbrev pub byte : List ℕ → Read ℕ
byte [] = Err Thrift
byte (first ∷ bytes) = Ok (first, bytes)

-- how many bytes a varint has at most, and the bound of its value
abbrev pub varint_most : ℕ
varint_most = 10

abbrev pub varint_bound : ℕ
varint_bound = 2 ^ 64

-- a varint of at most `room` bytes
unfoldable pub digits : ℕ → List ℕ → Read ℕ
digits zero bytes = Err Thrift
digits (suc room) bytes = byte bytes >>= λ b. if nat_lt b.0 128 then Ok b else digits room b.1 >>= λ v. Ok (b.0 - 128 + 128 * v.0, v.1)

unfoldable pub varint : List ℕ → Read ℕ
varint bytes = digits varint_most bytes >>= λ v. within (nat_lt v.0 varint_bound) v

-- the number that stands at a place of 0, -1, 1, -2, and so on
unfoldable pub unzigzag : ℕ → ℤ
unzigzag n = if n % 2 == 0 then pos (n / 2) else negsuc (n / 2)

-- i16, i32 and i64
unfoldable pub signed : ℕ → List ℕ → Read ℤ
signed bits bytes = varint bytes >>= λ v. within (nat_lt v.0 (2 ^ bits)) (unzigzag v.0, v.1)

-- i8: one byte in two's complement
unfoldable pub int8 : List ℕ → Read ℤ
int8 bytes = byte bytes >>= λ b. Ok (if nat_lt b.0 128 then pos b.0 else negsuc (255 - b.0), b.1)

-- the next `count` bytes
unfoldable pub bytes_at : ℕ → List ℕ → Read (List ℕ)
bytes_at count bytes = within (nat_le count (length bytes)) (take count bytes, drop count bytes)

-- binary: a length, then as many bytes
unfoldable pub binary : List ℕ → Read (List ℕ)
binary bytes = varint bytes >>= λ n. bytes_at n.0 n.1
