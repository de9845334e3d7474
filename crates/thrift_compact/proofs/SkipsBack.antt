-- What is written is passed over: exactly one value.
use Rattle.std.proofs.Common.{◌≡◌, inl, inr, refl, subst, ℕ, zero, suc, ◌<◌, ◌≤◌, nat_lt, nat_le, List, ◌++◌, length, ℤ, pos, unsigned_abs, Ok, true, false, arith, append_assoc}
use Rattle.std.proofs.lemmas.Bool.Decides.{nat_tests}
use Rattle.thrift_compact.specs.Headers.{is_type, field}
use Rattle.thrift_compact.specs.Skipping.{After, plain, element, elements, fields, list_of, container, level, skipped}
use Rattle.thrift_compact.specs.Trees.{Value, Elements, Fields, bool_value, i8_value, i32_value, i64_value, binary_value, list_value, struct_value, no_elements, with_element, no_fields, with_field, Shape, Shapes, bools, i8s, i32s, i64s, binaries, lists, structs, unknown, known}
use Rattle.thrift_compact.specs.Coded.{field_bytes, list_bytes, kind_of, how_many, coded, elements_coded, fields_coded, nesting, elements_nesting, fields_nesting}
use Rattle.thrift_compact.specs.Fitting.{AllFields, AllElements, Fits, FitsField}
use Rattle.thrift_compact.proofs.ReadBack.{signed_again, binary_again, field_again, list_again}
use Rattle.thrift_compact.proofs.TreesBack.{IsKnown, element_known, field_known, many, many_len}

fields_past : (inside : After) (Allowed : ℤ → Value → Type 0) (room : ℕ) → ((id : ℤ) (v : Value) (more : List ℕ) → Allowed id v → nesting v ≤ room → inside (kind_of v) (coded v ++ more) ≡ Ok more) → ((id : ℤ) (v : Value) → Allowed id v → IsKnown v) → (last : ℕ) (fs : Fields) (most : ℕ) (rest : List ℕ) → many fs < most → fields_nesting fs ≤ room → AllFields Allowed last fs → fields inside most (pos last) (fields_coded last fs ++ rest) ≡ Ok rest
unfolding fields fields_coded field
fields_past inside Allowed room past kinds last fs zero rest h deep f = absurd (omega (arith, h))
fields_past inside Allowed room past kinds last no_fields (suc most) rest h deep f = refl
fields_past inside Allowed room past kinds last (with_field id v fs) (suc most) rest h deep f =
    let i = unsigned_abs id in
    let range = kinds id v f.3 in
    let more : List ℕ = fields_coded i fs ++ rest in
    let less : many fs < most = omega (arith, h) in
    let own : nesting v ≤ room = omega (arith, deep) in
    let others : fields_nesting fs ≤ room = omega (arith, deep) in
    let joined : (field_bytes last i (kind_of v) ++ (coded v ++ fields_coded i fs)) ++ rest ≡ field_bytes last i (kind_of v) ++ (coded v ++ more) = simp append_assoc in
    rw (joined, field_again last i (kind_of v) (coded v ++ more) range.0 range.1 f.1 f.2, past id v more f.3 own)
    (fields_past inside Allowed room past kinds i fs most rest less others f.4)

elements_past : (inside : After) (Allowed : Value → Type 0) (room kind : ℕ) → 3 ≤ kind → ((v : Value) (more : List ℕ) → kind_of v ≡ kind → Allowed v → nesting v ≤ room → inside kind (coded v ++ more) ≡ Ok more) → (vs : Elements) (rest : List ℕ) → elements_nesting vs ≤ room → AllElements Allowed kind vs → elements inside kind (how_many vs) (elements_coded vs ++ rest) ≡ Ok rest
unfolding element elements elements_coded
elements_past inside Allowed room kind high past no_elements rest deep f = refl
elements_past inside Allowed room kind high past (with_element v vs) rest deep f =
    let more : List ℕ = elements_coded vs ++ rest in
    let test : nat_le kind 2 ≡ false = grind (arith, nat_tests) in
    let own : nesting v ≤ room = omega (arith, deep) in
    let others : elements_nesting vs ≤ room = omega (arith, deep) in
    rw (append_assoc (coded v) (elements_coded vs) rest, test, past v more f.0 f.1 own)
    (elements_past inside Allowed room kind high past vs rest others f.2)

-- a value of a plain type
plain_past : (room kind : ℕ) (bytes rest : List ℕ) → is_type kind ≡ true → nat_lt kind 9 ≡ true → plain kind bytes ≡ Ok rest → skipped room kind bytes ≡ Ok rest
unfolding skipped level
plain_past zero kind bytes rest told small e = rw (told, small) e
plain_past (suc room) kind bytes rest told small e = rw (told, small) e

mutual
  unfolding skipped level container list_of plain is_type coded elements_coded fields_coded

  pub value_past : (s : Shape) (v : Value) (room : ℕ) (rest : List ℕ) → Fits s v → nesting v ≤ room → skipped room (kind_of v) (coded v ++ rest) ≡ Ok rest
  value_past bools (bool_value true) room rest f deep = plain_past room 1 rest rest refl refl refl
  value_past bools (bool_value false) room rest f deep = plain_past room 2 rest rest refl refl refl
  value_past i8s (i8_value z) room rest f deep = plain_past room 3 (coded (i8_value z) ++ rest) rest refl refl refl
  value_past i32s (i32_value z) room rest f deep = plain_past room 5 (coded (i32_value z) ++ rest) rest refl refl (rw (signed_again 32 z rest (omega arith) f) refl)
  value_past i64s (i64_value z) room rest f deep = plain_past room 6 (coded (i64_value z) ++ rest) rest refl refl (rw (signed_again 64 z rest (omega arith) f) refl)
  value_past binaries (binary_value bytes) room rest f deep = plain_past room 8 (coded (binary_value bytes) ++ rest) rest refl refl (rw (binary_again bytes rest (omega (arith, f))) refl)
  value_past (lists s) (list_value kind vs) zero rest f deep = absurd (omega (arith, deep))
  value_past (lists s) (list_value kind vs) (suc room) rest f deep =
      let range = element_known s kind f.0 in
      let low : 1 ≤ kind = omega (arith, range.0) in
      let inner : elements_nesting vs ≤ room = omega (arith, deep) in
      rw (append_assoc (list_bytes kind (how_many vs)) (elements_coded vs) rest, list_again kind (how_many vs) (elements_coded vs ++ rest) low range.1 f.1)
      (elements_past (skipped room) (Fits s) room kind range.0 (λ v more e g d. subst (λ (k : ℕ). skipped room k (coded v ++ more) ≡ Ok more) e (value_past s v room more g d)) vs rest inner f.2)
  value_past (structs ss) (struct_value fs) zero rest f deep = absurd (omega (arith, deep))
  value_past (structs ss) (struct_value fs) (suc room) rest f deep =
      let inner : fields_nesting fs ≤ room = omega (arith, deep) in
      fields_past (skipped room) (FitsField ss) room (λ id v more g d. field_past ss id v room more g d) (field_known ss) 0 fs (length (fields_coded 0 fs ++ rest)) rest (many_len 0 fs rest) inner f
  value_past s v room rest f deep = absurd f

  pub field_past : (ss : Shapes) (id : ℤ) (v : Value) (room : ℕ) (rest : List ℕ) → FitsField ss id v → nesting v ≤ room → skipped room (kind_of v) (coded v ++ rest) ≡ Ok rest
  field_past unknown id v room rest f deep = absurd f
  field_past (known i s ss) id v room rest (inl g) deep = value_past s v room rest g.1 deep
  field_past (known i s ss) id v room rest (inr g) deep = field_past ss id v room rest g.1 deep
