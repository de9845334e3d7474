-- What is written reads back: values, by a table.
use Rattle.std.proofs.Common.{◌≡◌, inl, inr, refl, sym, subst, ℕ, zero, suc, ◌+◌, ◌-◌, ◌*◌, ◌<◌, ◌≤◌, nat_lt, nat_le, ◌&&◌, List, [], ◌∷◌, ◌++◌, length, if◌then◌else◌, ℤ, pos, unsigned_abs, Ok, Bool, true, false, arith, append_assoc}
use Rattle.std.proofs.lemmas.Bool.Decides.{nat_tests}
use Rattle.std.proofs.lemmas.List.{length-append}
use Rattle.thrift_compact.specs.Numbers.{Read}
use Rattle.thrift_compact.specs.Headers.{field}
use Rattle.thrift_compact.specs.Trees.{Value, Elements, Fields, bool_value, i8_value, i32_value, i64_value, binary_value, list_value, struct_value, no_elements, with_element, no_fields, with_field, Shape, Shapes, bools, i8s, i32s, i64s, binaries, lists, structs, unknown, known, is_of, is_element, FieldRead, fields_at, struct_at, elements_at, shaped, known_at, at_shape}
use Rattle.thrift_compact.specs.Coded.{signed_bytes, field_bytes, list_bytes, kind_of, how_many, coded, elements_coded, fields_coded}
use Rattle.thrift_compact.specs.Fitting.{AllFields, AllElements, Fits, FitsField}
use Rattle.thrift_compact.proofs.ReadBack.{signed_again, int8_again, binary_again, field_again, list_again}

-- Types.

pub element_known : (s : Shape) (kind : ℕ) → is_element s kind ≡ true → (3 ≤ kind) × (kind ≤ 12)
element_known bools kind e = absurd (grind (arith, nat_tests))
element_known i8s kind e = (grind (arith, nat_tests), grind (arith, nat_tests))
element_known i32s kind e = (grind (arith, nat_tests), grind (arith, nat_tests))
element_known i64s kind e = (grind (arith, nat_tests), grind (arith, nat_tests))
element_known binaries kind e = (grind (arith, nat_tests), grind (arith, nat_tests))
element_known (lists s) kind e = (grind (arith, nat_tests), grind (arith, nat_tests))
element_known (structs ss) kind e = (grind (arith, nat_tests), grind (arith, nat_tests))

-- an allowed value has the shape's type
pub shape_known : (s : Shape) (v : Value) → Fits s v → is_of s (kind_of v) ≡ true
shape_known bools (bool_value true) f = refl
shape_known bools (bool_value false) f = refl
shape_known i8s (i8_value z) f = refl
shape_known i32s (i32_value z) f = refl
shape_known i64s (i64_value z) f = refl
shape_known binaries (binary_value bytes) f = refl
shape_known (lists s) (list_value kind vs) f = refl
shape_known (structs ss) (struct_value fs) f = refl
shape_known s v f = absurd f

abbrev pub IsKnown : Value → Type 0
IsKnown v = (1 ≤ kind_of v) × (kind_of v ≤ 12)

pub fits_known : (s : Shape) (v : Value) → Fits s v → IsKnown v
fits_known bools (bool_value true) f = (omega arith, omega arith)
fits_known bools (bool_value false) f = (omega arith, omega arith)
fits_known i8s (i8_value z) f = (omega arith, omega arith)
fits_known i32s (i32_value z) f = (omega arith, omega arith)
fits_known i64s (i64_value z) f = (omega arith, omega arith)
fits_known binaries (binary_value bytes) f = (omega arith, omega arith)
fits_known (lists s) (list_value kind vs) f = (omega arith, omega arith)
fits_known (structs ss) (struct_value fs) f = (omega arith, omega arith)
fits_known s v f = absurd f

pub field_known : (ss : Shapes) (id : ℤ) (v : Value) → FitsField ss id v → IsKnown v
field_known unknown id v f = absurd f
field_known (known i s ss) id v (inl g) = fits_known s v g.1
field_known (known i s ss) id v (inr g) = field_known ss id v g.1

-- The fields of a struct.

abbrev pub many : Fields → ℕ
many no_fields = 0
many (with_field id v fs) = suc (many fs)

head_len : (last i kind : ℕ) → 1 ≤ length (field_bytes last i kind)
unfolding field_bytes
head_len last i kind = by (nat_lt last i && nat_le i (last + 15))
  where
    by : (short : Bool) → 1 ≤ length (if short then ((i - last) * 16 + kind) ∷ [] else kind ∷ signed_bytes (pos i))
    by true = omega arith
    by false = omega arith

pub many_len : (last : ℕ) (fs : Fields) (rest : List ℕ) → many fs < length (fields_coded last fs ++ rest)
unfolding fields_coded
many_len last no_fields rest = omega arith
many_len last (with_field id v fs) rest =
    let i = unsigned_abs id in
    let head = head_len last i (kind_of v) in
    let all = length-append (field_bytes last i (kind_of v) ++ (coded v ++ fields_coded i fs)) rest in
    let parts = length-append (field_bytes last i (kind_of v)) (coded v ++ fields_coded i fs) in
    let inner = length-append (coded v) (fields_coded i fs) in
    let tail = length-append (fields_coded i fs) rest in
    let ih = many_len i fs rest in
    omega (arith, head, all, parts, inner, tail, ih)

abbrev pub FieldAgain : FieldRead → (ℤ → Value → Type 0) → Type 0
FieldAgain read Allowed = (id : ℤ) (v : Value) (more : List ℕ) → Allowed id v → read id (kind_of v) (coded v ++ more) ≡ Ok (v, more)

pub fields_again : (read : FieldRead) (Allowed : ℤ → Value → Type 0) → FieldAgain read Allowed → ((id : ℤ) (v : Value) → Allowed id v → IsKnown v) → (last : ℕ) (fs : Fields) (most : ℕ) (rest : List ℕ) → many fs < most → AllFields Allowed last fs → fields_at read most (pos last) (fields_coded last fs ++ rest) ≡ Ok (fs, rest)
unfolding fields_at fields_coded field
fields_again read Allowed again kinds last fs zero rest h f = absurd (omega (arith, h))
fields_again read Allowed again kinds last no_fields (suc most) rest h f = refl
fields_again read Allowed again kinds last (with_field id v fs) (suc most) rest h f =
    let i = unsigned_abs id in
    let range = kinds id v f.3 in
    let more : List ℕ = fields_coded i fs ++ rest in
    let less : many fs < most = omega (arith, h) in
    let joined : (field_bytes last i (kind_of v) ++ (coded v ++ fields_coded i fs)) ++ rest ≡ field_bytes last i (kind_of v) ++ (coded v ++ more) = simp append_assoc in
    rw (joined, field_again last i (kind_of v) (coded v ++ more) range.0 range.1 f.1 f.2, f.0, again id v more f.3, sym f.0, fields_again read Allowed again kinds i fs most rest less f.4) refl

-- The elements of a list.

pub elements_again : (read : List ℕ → Read Value) (Allowed : Value → Type 0) (kind : ℕ) → ((v : Value) (more : List ℕ) → kind_of v ≡ kind → Allowed v → read (coded v ++ more) ≡ Ok (v, more)) → (vs : Elements) (rest : List ℕ) → AllElements Allowed kind vs → elements_at read (how_many vs) (elements_coded vs ++ rest) ≡ Ok (vs, rest)
unfolding elements_at elements_coded
elements_again read Allowed kind again no_elements rest f = refl
elements_again read Allowed kind again (with_element v vs) rest f =
    rw (append_assoc (coded v) (elements_coded vs) rest, again v (elements_coded vs ++ rest) f.0 f.1, elements_again read Allowed kind again vs rest f.2) refl

-- Values, by their shape.

mutual
  unfolding shaped known_at coded elements_coded fields_coded

  pub shaped_again : (s : Shape) (v : Value) (rest : List ℕ) → Fits s v → shaped s (kind_of v) (coded v ++ rest) ≡ Ok (v, rest)
  shaped_again bools (bool_value true) rest f = refl
  shaped_again bools (bool_value false) rest f = refl
  shaped_again i8s (i8_value z) rest f = rw (int8_again z rest f) refl
  shaped_again i32s (i32_value z) rest f = rw (signed_again 32 z rest (omega arith) f) refl
  shaped_again i64s (i64_value z) rest f = rw (signed_again 64 z rest (omega arith) f) refl
  shaped_again binaries (binary_value bytes) rest f = rw (binary_again bytes rest (omega (arith, f))) refl
  shaped_again (lists s) (list_value kind vs) rest f =
      let range = element_known s kind f.0 in
      let low : 1 ≤ kind = omega (arith, range.0) in
      rw (
        append_assoc (list_bytes kind (how_many vs)) (elements_coded vs) rest,
        list_again kind (how_many vs) (elements_coded vs ++ rest) low range.1 f.1,
        f.0,
        elements_again (shaped s kind) (Fits s) kind (λ v more e g. subst (λ (k : ℕ). shaped s k (coded v ++ more) ≡ Ok (v, more)) e (shaped_again s v more g)) vs rest f.2,
      ) refl
  shaped_again (structs ss) (struct_value fs) rest f =
      rw (fields_again (known_at ss) (FitsField ss) (λ id v more g. known_again ss id v more g) (field_known ss) 0 fs (length (fields_coded 0 fs ++ rest)) rest (many_len 0 fs rest) f) refl
  shaped_again s v rest f = absurd f

  pub known_again : (ss : Shapes) (id : ℤ) (v : Value) (rest : List ℕ) → FitsField ss id v → known_at ss id (kind_of v) (coded v ++ rest) ≡ Ok (v, rest)
  known_again unknown id v rest f = absurd f
  known_again (known i s ss) id v rest (inl g) = rw (g.0, shape_known s v g.1) (shaped_again s v rest g.1)
  known_again (known i s ss) id v rest (inr g) = rw g.0 (known_again ss id v rest g.1)

pub value_reads_back : (s : Shape) (v : Value) (rest : List ℕ) → Fits s v → at_shape s (kind_of v) (coded v ++ rest) ≡ Ok (v, rest)
unfolding at_shape
value_reads_back s v rest f = rw (shape_known s v f) (shaped_again s v rest f)

-- a struct that stands by itself
pub struct_reads_back : (ss : Shapes) (fs : Fields) (rest : List ℕ) → AllFields (FitsField ss) 0 fs → struct_at (known_at ss) (fields_coded 0 fs ++ rest) ≡ Ok (fs, rest)
struct_reads_back ss fs rest f =
    fields_again (known_at ss) (FitsField ss) (λ id v more g. known_again ss id v more g) (field_known ss) 0 fs (length (fields_coded 0 fs ++ rest)) rest (many_len 0 fs rest) f
