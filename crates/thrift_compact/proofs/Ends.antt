-- What is read leaves the last bytes.
use Rattle.std.proofs.Common.{◌≡◌, ◌∙◌, refl, sym, ap, subst, ℕ, zero, suc, ◌+◌, ◌-◌, ◌*◌, ◌/◌, ◌%◌, ◌≤◌, nat_lt, nat_le, ◌==◌, List, [], ◌∷◌, ◌++◌, length, take, drop, if◌then◌else◌, ℤ, pos, Option, None, Some, Result, Ok, Err, Bool, true, false, arith, append_assoc}
use Rattle.std.proofs.lemmas.List.{length-append, take-append-drop}
use Rattle.std.proofs.Math.Seq.{drop-append_seam}
use Rattle.vs_bytes.specs.Outcome.{◌>>=◌}
use Rattle.vs_bytes.specs.declared.rule.Rule.{Rule}
use Rattle.vs_bytes.specs.declared.rule.Rule.TheVariants.{Thrift}
use Rattle.thrift_compact.specs.Ends.{IsEnd}
use Rattle.thrift_compact.specs.Numbers.{Read, within, byte, digits, varint, unzigzag, signed, int8, bytes_at, binary}
use Rattle.thrift_compact.specs.Headers.{is_type, field_id, field, list_size, list, map_types, map_size}
use Rattle.thrift_compact.specs.Skipping.{After, after, plain, element, elements, pairs, map_after, field_after, fields, map_of, list_of, container, level, skipped}

pub record Tail (rest whole : List ℕ) : Type 0 where
  pub before : List ℕ
  pub joined : whole ≡ before ++ rest

pub all_tail : (bytes : List ℕ) → Tail bytes bytes
all_tail bytes = record {
  before = [];
  joined = refl;
}

pub one_less : (b : ℕ) (bytes : List ℕ) → Tail bytes (b ∷ bytes)
one_less b bytes = record {
  before = b ∷ [];
  joined = refl;
}

pub tail_on : (rest part whole : List ℕ) → Tail rest part → Tail part whole → Tail rest whole
tail_on rest part whole g h = record {
  before = h.before ++ g.before;
  joined = h.joined ∙ ap (λ (xs : List ℕ). h.before ++ xs) g.joined ∙ sym (append_assoc h.before g.before rest);
}

pub end_tail : (rest whole : List ℕ) → IsEnd rest whole → Tail rest whole
end_tail rest whole e = record {
  before = take (length whole - length rest) whole;
  joined = sym (take-append-drop (length whole - length rest) whole) ∙ ap (λ (xs : List ℕ). take (length whole - length rest) whole ++ xs) e;
}

pub tail_len : (rest whole : List ℕ) (g : Tail rest whole) → length whole ≡ length g.before + length rest
tail_len rest whole g = ap (λ (xs : List ℕ). length xs) g.joined ∙ length-append g.before rest

pub tail_end : (rest whole : List ℕ) → Tail rest whole → IsEnd rest whole
tail_end rest whole g =
    let parts = tail_len rest whole g in
    let place : length whole - length rest ≡ length g.before = omega (arith, parts) in
    rw (place, g.joined) (drop-append_seam g.before rest)

pub all_end : (bytes : List ℕ) → IsEnd bytes bytes
all_end bytes = tail_end bytes bytes (all_tail bytes)

pub end_len : (rest whole : List ℕ) → IsEnd rest whole → length rest ≤ length whole
end_len rest whole e =
    let parts = tail_len rest whole (end_tail rest whole e) in
    omega (arith, parts)

-- Readers that give a value and the bytes after it.

abbrev pub Ends : {A : Type 0} → Read A → List ℕ → Type 0
Ends (Ok read) bytes = Tail read.1 bytes
Ends (Err fault) bytes = Unit {0}

pub ends_on : {A : Type 0} (read : Read A) (rest bytes : List ℕ) → Ends read rest → Tail rest bytes → Ends read bytes
ends_on (Ok a) rest bytes g h = tail_on a.1 rest bytes g h
ends_on (Err fault) rest bytes g h = tt

pub ends_then : {A B : Type 0} (read : Read A) (next : A × List ℕ → Read B) (bytes : List ℕ) → Ends read bytes → ((a : A × List ℕ) → Ends (next a) a.1) → Ends (read >>= next) bytes
ends_then (Ok a) next bytes g h = ends_on (next a) a.1 bytes (h a) g
ends_then (Err fault) next bytes g h = tt

pub ends_within : {A : Type 0} (fits : Bool) (a : A) (rest bytes : List ℕ) → Tail rest bytes → Ends (within fits (a, rest)) bytes
ends_within true a rest bytes g = g
ends_within false a rest bytes g = tt

pub ends_if : {A : Type 0} (b : Bool) (one other : Read A) (bytes : List ℕ) → Ends one bytes → Ends other bytes → Ends (if b then one else other) bytes
ends_if true one other bytes g h = g
ends_if false one other bytes g h = h

pub byte_ends : (bytes : List ℕ) → Ends (byte bytes) bytes
byte_ends [] = tt
byte_ends (b ∷ bytes) = one_less b bytes

pub digits_ends : (room : ℕ) (bytes : List ℕ) → Ends (digits room bytes) bytes
unfolding digits
digits_ends zero bytes = tt
digits_ends (suc room) bytes =
    ends_then (byte bytes) _ bytes (byte_ends bytes) (λ b. ends_if (nat_lt b.0 128) (Ok b) (digits room b.1 >>= λ v. Ok (b.0 - 128 + 128 * v.0, v.1)) b.1 (all_tail b.1) (ends_then (digits room b.1) (λ v. Ok (b.0 - 128 + 128 * v.0, v.1)) b.1 (digits_ends room b.1) (λ v. all_tail v.1)))

pub varint_ends : (bytes : List ℕ) → Ends (varint bytes) bytes
unfolding varint
varint_ends bytes = ends_then (digits 10 bytes) _ bytes (digits_ends 10 bytes) (λ v. ends_within _ v.0 v.1 v.1 (all_tail v.1))

pub signed_ends : (bits : ℕ) (bytes : List ℕ) → Ends (signed bits bytes) bytes
unfolding signed
signed_ends bits bytes = ends_then (varint bytes) _ bytes (varint_ends bytes) (λ v. ends_within _ (unzigzag v.0) v.1 v.1 (all_tail v.1))

pub int8_ends : (bytes : List ℕ) → Ends (int8 bytes) bytes
unfolding int8
int8_ends bytes = ends_then (byte bytes) _ bytes (byte_ends bytes) (λ b. all_tail b.1)

pub part_ends : (count : ℕ) (bytes : List ℕ) → Ends (bytes_at count bytes) bytes
unfolding bytes_at
part_ends count bytes = ends_within _ (take count bytes) (drop count bytes) bytes (record {
  before = take count bytes;
  joined = sym (take-append-drop count bytes);
})

pub binary_ends : (bytes : List ℕ) → Ends (binary bytes) bytes
unfolding binary
binary_ends bytes = ends_then (varint bytes) _ bytes (varint_ends bytes) (λ n. part_ends n.0 n.1)

pub id_ends : (last : ℤ) (delta : ℕ) (bytes : List ℕ) → Ends (field_id last delta bytes) bytes
unfolding field_id
id_ends last delta bytes = ends_if (delta == 0) _ _ bytes (signed_ends 16 bytes) (ends_within _ _ bytes bytes (all_tail bytes))

pub field_ends : (last : ℤ) (bytes : List ℕ) → Ends (field last bytes) bytes
unfolding field
field_ends last bytes = ends_then (byte bytes) _ bytes (byte_ends bytes) (λ b.
    ends_if (b.0 == 0) _ _ b.1 (all_tail b.1) (ends_then (field_id last (b.0 / 16) b.1) _ b.1 (id_ends last (b.0 / 16) b.1) (λ id. ends_within _ (Some (id.0, b.0 % 16)) id.1 id.1 (all_tail id.1))))

pub size_ends : (short : ℕ) (bytes : List ℕ) → Ends (list_size short bytes) bytes
unfolding list_size
size_ends short bytes = ends_if (short == 15) (varint bytes) (Ok (short, bytes)) bytes (varint_ends bytes) (all_tail bytes)

pub list_ends : (bytes : List ℕ) → Ends (list bytes) bytes
unfolding list
list_ends bytes = ends_then (byte bytes) _ bytes (byte_ends bytes) (λ b.
    ends_then (list_size (b.0 / 16) b.1) _ b.1 (size_ends (b.0 / 16) b.1) (λ n. ends_within _ (b.0 % 16, n.0) n.1 n.1 (all_tail n.1)))

pub types_ends : (size : ℕ) (bytes : List ℕ) → Ends (map_types size bytes) bytes
unfolding map_types
types_ends size bytes = ends_if (size == 0) _ _ bytes (all_tail bytes) (ends_then (byte bytes) _ bytes (byte_ends bytes) (λ b. ends_within _ (Some (b.0 / 16, b.0 % 16)) b.1 b.1 (all_tail b.1)))

pub map_ends : (bytes : List ℕ) → Ends (map_size bytes) bytes
unfolding map_size
map_ends bytes = ends_then (varint bytes) _ bytes (varint_ends bytes) (λ n. ends_within _ n.0 n.1 n.1 (all_tail n.1))

-- What is passed over.

abbrev pub Leaves : Result (List ℕ) Rule → List ℕ → Type 0
Leaves (Ok rest) bytes = Tail rest bytes
Leaves (Err fault) bytes = Unit {0}

abbrev pub LeavesAll : After → Type 0
LeavesAll inside = (kind : ℕ) (bytes : List ℕ) → Leaves (inside kind bytes) bytes

pub leaves_on : (read : Result (List ℕ) Rule) (rest bytes : List ℕ) → Leaves read rest → Tail rest bytes → Leaves read bytes
leaves_on (Ok a) rest bytes g h = tail_on a rest bytes g h
leaves_on (Err fault) rest bytes g h = tt

pub leaves_then : (read : Result (List ℕ) Rule) (next : List ℕ → Result (List ℕ) Rule) (bytes : List ℕ) → Leaves read bytes → ((rest : List ℕ) → Leaves (next rest) rest) → Leaves (read >>= next) bytes
leaves_then (Ok a) next bytes g h = leaves_on (next a) a bytes (h a) g
leaves_then (Err fault) next bytes g h = tt

pub ends_leaves : {A : Type 0} (read : Read A) (next : A × List ℕ → Result (List ℕ) Rule) (bytes : List ℕ) → Ends read bytes → ((a : A × List ℕ) → Leaves (next a) a.1) → Leaves (read >>= next) bytes
ends_leaves (Ok a) next bytes g h = leaves_on (next a) a.1 bytes (h a) g
ends_leaves (Err fault) next bytes g h = tt

pub leaves_after : {A : Type 0} (read : Read A) (bytes : List ℕ) → Ends read bytes → Leaves (after read) bytes
leaves_after (Ok a) bytes g = g
leaves_after (Err fault) bytes g = tt

pub leaves_if : (b : Bool) (one other : Result (List ℕ) Rule) (bytes : List ℕ) → Leaves one bytes → Leaves other bytes → Leaves (if b then one else other) bytes
leaves_if true one other bytes g h = g
leaves_if false one other bytes g h = h

pub plain_leaves : LeavesAll plain
unfolding plain
plain_leaves kind bytes =
    leaves_if (nat_le kind 2) _ _ bytes (all_tail bytes)
    (leaves_if (kind == 3) _ _ bytes (leaves_after (byte bytes) bytes (byte_ends bytes))
    (leaves_if (kind == 4) _ _ bytes (leaves_after (signed 16 bytes) bytes (signed_ends 16 bytes))
    (leaves_if (kind == 5) _ _ bytes (leaves_after (signed 32 bytes) bytes (signed_ends 32 bytes))
    (leaves_if (kind == 6) _ _ bytes (leaves_after (signed 64 bytes) bytes (signed_ends 64 bytes))
    (leaves_if (kind == 7) _ _ bytes (leaves_after (bytes_at 8 bytes) bytes (part_ends 8 bytes))
    (leaves_after (binary bytes) bytes (binary_ends bytes)))))))

pub element_leaves : (inside : After) → LeavesAll inside → LeavesAll (element inside)
unfolding element
element_leaves inside g kind bytes = leaves_if (nat_le kind 2) _ _ bytes (leaves_after (byte bytes) bytes (byte_ends bytes)) (g kind bytes)

pub elements_leaves : (inside : After) → LeavesAll inside → (kind size : ℕ) (bytes : List ℕ) → Leaves (elements inside kind size bytes) bytes
unfolding elements
elements_leaves inside g kind zero bytes = all_tail bytes
elements_leaves inside g kind (suc size) bytes =
    leaves_then (element inside kind bytes) (elements inside kind size) bytes (element_leaves inside g kind bytes) (elements_leaves inside g kind size)

pub pairs_leaves : (inside : After) → LeavesAll inside → (key value size : ℕ) (bytes : List ℕ) → Leaves (pairs inside key value size bytes) bytes
unfolding pairs
pairs_leaves inside g key value zero bytes = all_tail bytes
pairs_leaves inside g key value (suc size) bytes =
    leaves_then (element inside key bytes >>= element inside value) (pairs inside key value size) bytes
    (leaves_then (element inside key bytes) (element inside value) bytes (element_leaves inside g key bytes) (element_leaves inside g value))
    (pairs_leaves inside g key value size)

pub map_leaves : (inside : After) → LeavesAll inside → (bytes : List ℕ) → Leaves (map_of inside bytes) bytes
unfolding map_of map_after
map_leaves inside g bytes = ends_leaves (map_size bytes) _ bytes (map_ends bytes) (λ n. ends_leaves (map_types n.0 n.1) (λ t. map_after inside n.0 t.0 t.1) n.1 (types_ends n.0 n.1) (λ t. each n.0 t.0 t.1))
  where
    each : (size : ℕ) (kinds : Option (ℕ × ℕ)) (rest : List ℕ) → Leaves (map_after inside size kinds rest) rest
    each size None rest = all_tail rest
    each size (Some kinds) rest = pairs_leaves inside g kinds.0 kinds.1 size rest

pub fields_leaves : (inside : After) → LeavesAll inside → (most : ℕ) (last : ℤ) (bytes : List ℕ) → Leaves (fields inside most last bytes) bytes
unfolding fields
fields_leaves inside g zero last bytes = tt
fields_leaves inside g (suc most) last bytes =
    ends_leaves (field last bytes) _ bytes (field_ends last bytes) (λ f. each (fields inside most) (fields_leaves inside g most) f.0 f.1)
  where
    each : (more : ℤ → List ℕ → Result (List ℕ) Rule) → ((id : ℤ) (rest : List ℕ) → Leaves (more id rest) rest) → (head : Option (ℤ × ℕ)) (rest : List ℕ) → Leaves (field_after inside more head rest) rest
    each more m None rest = all_tail rest
    each more m (Some head) rest = leaves_then (inside head.1 rest) (more head.0) rest (g head.1 rest) (m head.0)

pub container_leaves : (inside : After) → LeavesAll inside → LeavesAll (container inside)
unfolding container list_of
container_leaves inside g kind bytes =
    leaves_if (kind == 12) _ _ bytes (fields_leaves inside g (length bytes) (pos 0) bytes)
    (leaves_if (kind == 11) (map_of inside bytes) _ bytes (map_leaves inside g bytes)
    (ends_leaves (list bytes) _ bytes (list_ends bytes) (λ l. elements_leaves inside g l.0.0 l.0.1 l.1)))

pub level_leaves : (inside : After) → LeavesAll inside → LeavesAll (level inside)
unfolding level
level_leaves inside g kind bytes =
    leaves_if (is_type kind) _ (Err Thrift) bytes (leaves_if (nat_lt kind 9) (plain kind bytes) (inside kind bytes) bytes (plain_leaves kind bytes) (g kind bytes)) tt

pub skipped_leaves : (room : ℕ) → LeavesAll (skipped room)
unfolding skipped
skipped_leaves zero = level_leaves _ (λ kind bytes. tt)
skipped_leaves (suc room) = level_leaves _ (container_leaves (skipped room) (skipped_leaves room))

-- A reader's bytes.

still : {A : Type 0} (read : Read A) (a : A) (next rest whole : List ℕ) → Ends read rest → read ≡ Ok (a, next) → IsEnd rest whole → IsEnd next whole
still {A = A} read a next rest whole g e h = tail_end next whole (tail_on next rest whole (subst (λ (r : Read A). Ends r rest) e g) (end_tail rest whole h))

pub field_still : (last : ℤ) (f : Option (ℤ × ℕ)) (next rest whole : List ℕ) → field last rest ≡ Ok (f, next) → IsEnd rest whole → IsEnd next whole
field_still last f next rest whole e h = still (field last rest) f next rest whole (field_ends last rest) e h

pub signed_still : (bits : ℕ) (n : ℤ) (next rest whole : List ℕ) → signed bits rest ≡ Ok (n, next) → IsEnd rest whole → IsEnd next whole
signed_still bits n next rest whole e h = still (signed bits rest) n next rest whole (signed_ends bits rest) e h

pub int8_still : (n : ℤ) (next rest whole : List ℕ) → int8 rest ≡ Ok (n, next) → IsEnd rest whole → IsEnd next whole
int8_still n next rest whole e h = still (int8 rest) n next rest whole (int8_ends rest) e h

pub binary_still : (part next rest whole : List ℕ) → binary rest ≡ Ok (part, next) → IsEnd rest whole → IsEnd next whole
binary_still part next rest whole e h = still (binary rest) part next rest whole (binary_ends rest) e h

pub list_still : (l : ℕ × ℕ) (next rest whole : List ℕ) → list rest ≡ Ok (l, next) → IsEnd rest whole → IsEnd next whole
list_still l next rest whole e h = still (list rest) l next rest whole (list_ends rest) e h

pub skipped_still : (room kind : ℕ) (next rest whole : List ℕ) → skipped room kind rest ≡ Ok next → IsEnd rest whole → IsEnd next whole
skipped_still room kind next rest whole e h = tail_end next whole (tail_on next rest whole (subst (λ (r : Result (List ℕ) Rule). Leaves r rest) e (skipped_leaves room kind rest)) (end_tail rest whole h))
