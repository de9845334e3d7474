-- What is read by a table leaves the last bytes.
use Rattle.std.proofs.Common.{◌≡◌, subst, ℕ, zero, suc, ◌/◌, ◌%◌, ◌==◌, ◌<◌, List, [], ◌∷◌, length, ℤ, pos, Option, None, Some, Result, Ok, Err, Bool, arith}
use Rattle.std.specs.Ordering.{int_eq}
use Rattle.vs_bytes.specs.Outcome.{◌>>=◌}
use Rattle.vs_bytes.specs.declared.rule.Rule.{Rule}
use Rattle.vs_bytes.specs.declared.rule.Rule.TheVariants.{Thrift}
use Rattle.thrift_compact.specs.Numbers.{Read, mapped, int8, signed, binary}
use Rattle.thrift_compact.specs.Headers.{field_id, field, list}
use Rattle.thrift_compact.specs.Skipping.{max_nesting, elements, skipped}
use Rattle.thrift_compact.specs.Trees.{Value, Fields, other, i8_value, i32_value, i64_value, binary_value, list_value, struct_value, with_element, with_field, Shape, Shapes, bools, i8s, i32s, i64s, binaries, lists, structs, unknown, known, is_of, is_element, FieldRead, passed_over, one_field, fields_at, struct_at, elements_at, list_at, shaped, known_at}
use Rattle.thrift_compact.proofs.Ends.{Ends, Leaves, all_tail, tail_end, end_len, ends_then, ends_if, ends_within, id_ends, int8_ends, signed_ends, binary_ends, field_ends, list_ends, elements_leaves, skipped_leaves}

mapped_ends : {A B : Type 0} (view : A → B) (read : Read A) (bytes : List ℕ) → Ends read bytes → Ends (mapped view read) bytes
mapped_ends view (Ok a) bytes g = g
mapped_ends view (Err fault) bytes g = tt

other_ends : (read : Result (List ℕ) Rule) (bytes : List ℕ) → Leaves read bytes → Ends (read >>= λ rest. Ok (other, rest)) bytes
other_ends (Ok rest) bytes g = g
other_ends (Err fault) bytes g = tt

passed_ends : (kind : ℕ) (bytes : List ℕ) → Ends (passed_over kind bytes) bytes
unfolding passed_over
passed_ends kind bytes = other_ends (skipped 32 kind bytes) bytes (skipped_leaves 32 kind bytes)

one_ends : (read : FieldRead) → ((id : ℤ) (kind : ℕ) (bytes : List ℕ) → Ends (read id kind bytes) bytes) → (more : ℤ → List ℕ → Read Fields) → ((id : ℤ) (rest : List ℕ) → Ends (more id rest) rest) → (head : Option (ℤ × ℕ)) (rest : List ℕ) → Ends (one_field read more head rest) rest
one_ends read g more m None rest = all_tail rest
one_ends read g more m (Some head) rest = ends_then (read head.0 head.1 rest) _ rest (g head.0 head.1 rest) (λ v. mapped_ends (with_field head.0 v.0) (more head.0 v.1) v.1 (m head.0 v.1))

fields_end : (read : FieldRead) → ((id : ℤ) (kind : ℕ) (bytes : List ℕ) → Ends (read id kind bytes) bytes) → (most : ℕ) (last : ℤ) (bytes : List ℕ) → Ends (fields_at read most last bytes) bytes
unfolding fields_at
fields_end read g zero last bytes = tt
fields_end read g (suc most) last bytes =
    ends_then (field last bytes) _ bytes (field_ends last bytes) (λ f. one_ends read g (fields_at read most) (fields_end read g most) f.0 f.1)

elements_end : (read : List ℕ → Read Value) → ((bytes : List ℕ) → Ends (read bytes) bytes) → (size : ℕ) (bytes : List ℕ) → Ends (elements_at read size bytes) bytes
unfolding elements_at
elements_end read g zero bytes = all_tail bytes
elements_end read g (suc size) bytes = ends_then (read bytes) _ bytes (g bytes) (λ v. mapped_ends (with_element v.0) (elements_at read size v.1) v.1 (elements_end read g size v.1))

list_end : (fits : Bool) (read : List ℕ → Read Value) → ((bytes : List ℕ) → Ends (read bytes) bytes) → (kind size : ℕ) (bytes : List ℕ) → Ends (list_at fits read kind size bytes) bytes
list_end fits read g kind size bytes =
    ends_if fits (mapped (list_value kind) (elements_at read size bytes)) (elements (skipped max_nesting) kind size bytes >>= λ rest. Ok (other, rest)) bytes
    (mapped_ends (list_value kind) (elements_at read size bytes) bytes (elements_end read g size bytes))
    (other_ends (elements (skipped 32) kind size bytes) bytes (elements_leaves (skipped 32) (skipped_leaves 32) kind size bytes))

mutual
  unfolding shaped known_at

  shaped_ends : (s : Shape) (kind : ℕ) (bytes : List ℕ) → Ends (shaped s kind bytes) bytes
  shaped_ends bools kind bytes = all_tail bytes
  shaped_ends i8s kind bytes = mapped_ends i8_value (int8 bytes) bytes (int8_ends bytes)
  shaped_ends i32s kind bytes = mapped_ends i32_value (signed 32 bytes) bytes (signed_ends 32 bytes)
  shaped_ends i64s kind bytes = mapped_ends i64_value (signed 64 bytes) bytes (signed_ends 64 bytes)
  shaped_ends binaries kind bytes = mapped_ends binary_value (binary bytes) bytes (binary_ends bytes)
  shaped_ends (lists s) kind bytes = ends_then (list bytes) _ bytes (list_ends bytes) (λ l. list_end (is_element s l.0.0) (shaped s l.0.0) (λ more. shaped_ends s l.0.0 more) l.0.0 l.0.1 l.1)
  shaped_ends (structs ss) kind bytes = mapped_ends struct_value (struct_at (known_at ss) bytes) bytes (fields_end (known_at ss) (λ id own more. known_ends ss id own more) (length bytes) (pos 0) bytes)

  known_ends : (ss : Shapes) (id : ℤ) (kind : ℕ) (bytes : List ℕ) → Ends (known_at ss id kind bytes) bytes
  known_ends unknown id kind bytes = passed_ends kind bytes
  known_ends (known i s ss) id kind bytes =
      ends_if (int_eq id (pos i)) _ (known_at ss id kind bytes) bytes
      (ends_if (is_of s kind) (shaped s kind bytes) (passed_over kind bytes) bytes (shaped_ends s kind bytes) (passed_ends kind bytes))
      (known_ends ss id kind bytes)

-- A struct takes a byte or more.

field_takes : (last : ℤ) (first : ℕ) (bytes : List ℕ) → Ends (field last (first ∷ bytes)) bytes
unfolding field
field_takes last first bytes =
    ends_if (first == 0) _ _ bytes (all_tail bytes)
    (ends_then (field_id last (first / 16) bytes) _ bytes (id_ends last (first / 16) bytes) (λ id. ends_within _ (Some (id.0, first % 16)) id.1 id.1 (all_tail id.1)))

struct_takes : (ss : Shapes) (first : ℕ) (bytes : List ℕ) → Ends (struct_at (known_at ss) (first ∷ bytes)) bytes
unfolding fields_at
struct_takes ss first bytes =
    ends_then (field (pos 0) (first ∷ bytes)) _ bytes (field_takes (pos 0) first bytes)
    (λ f. one_ends (known_at ss) (known_ends ss) (fields_at (known_at ss) (length bytes)) (fields_end (known_at ss) (known_ends ss) (length bytes)) f.0 f.1)

never : {A F : Type 0} (fault : F) (a : A) → Err fault ≡ Ok a → ⊥
never fault a e = let wrong : Err fault ≡ Ok a = e in cc

pub struct_len : {A : Type 0} (view : Fields → A) (ss : Shapes) (bytes : List ℕ) (a : A) (rest : List ℕ) → mapped view (struct_at (known_at ss) bytes) ≡ Ok (a, rest) → length rest < length bytes
unfolding fields_at
struct_len {A = A} view ss [] a rest e = absurd (never Thrift (a, rest) e)
struct_len {A = A} view ss (first ∷ bytes) a rest e =
    let whole = mapped_ends view (struct_at (known_at ss) (first ∷ bytes)) bytes (struct_takes ss first bytes) in
    let within = end_len rest bytes (tail_end rest bytes (subst (λ (r : Read A). Ends r bytes) e whole)) in
    omega (arith, within)
