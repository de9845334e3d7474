-- Schema elements that are written read back.
use Rattle.std.proofs.Common.{◌≡◌, ◌∙◌, inl, inr, refl, sym, subst, ℕ, zero, suc, ◌^◌, ◌<◌, ◌≤◌, List, [], ◌∷◌, ◌++◌, ℤ, pos, negsuc, Bool, true, false, if◌then◌else◌, Option, None, Some, IfSome, Ok, arith}
use Rattle.std.proofs.lemmas.Bool.Decides.{nat_tests, Decides-int_eq}
use Rattle.std.specs.List.{list_any}
use Rattle.std.specs.Ordering.{int_eq}
use Rattle.std.specs.Str.{is_utf8}
use Rattle.thrift_compact.specs.Numbers.{mapped}
use Rattle.thrift_compact.specs.Trees.{Value, Fields, Shape, Shapes, unknown, known, i32_value, binary_value, struct_value, no_fields, with_field, bools, i8s, i32s, binaries, structs, struct_at, known_at}
use Rattle.thrift_compact.specs.Coded.{zigzag, maybe, fields_coded}
use Rattle.thrift_compact.specs.Fitting.{AllFields, Fits, FitsField}
use Rattle.thrift_compact.specs.PageWriting.{IsCount, IsI32}
use Rattle.thrift_compact.specs.Slots.{filled, struct_in}
use Rattle.thrift_compact.specs.declared.slots.Slot.{Slot}
use Rattle.thrift_compact.specs.declared.slots.Slot.TheVariants.{Missing, Found}
use Rattle.thrift_compact.proofs.SlotsBack.{not_negative, slot_of, optional_slot, step, maybe_fit}
use Rattle.thrift_structs.proofs.ChunksBack.{struct_back}
use Rattle.schema_elements.specs.FieldValues.{small_value, flag_value, IsI8, IsFlag}
use Rattle.schema_elements.specs.Unions.{met}
use Rattle.schema_elements.specs.LogicalTypes.{member_finish, decimal_shapes, decimal_put, decimal_of, unit_shapes, unit_put, member_of, unit_of, time_shapes, time_put, time_finish, time_of, known_unit, integer_shapes, integer_put, integer_of, variant_shapes, variant_put, variant_of, logical_shapes, logical_put, logical_finish, logical_of}
use Rattle.schema_elements.specs.ElementWriting.{members, has_fields, decimal_fields, unit_fields, unit_value, time_fields, integer_fields, variant_fields, logical_fields, logical_tree, type_fields, element_fields, IsUnit, IsNone, Holds, IsLogical, ElementReadsBack}
use Rattle.schema_elements.specs.SchemaElements.{element_shapes, element_start, element_put, element_finish, element_of}
use Rattle.thrift_structs.specs.Entries.{optional_counted}
use Rattle.schema_elements.specs.declared.elements.SchemaElement.{SchemaElement}
use Rattle.schema_elements.specs.declared.elements.ElementSlots.{ElementSlots}
use Rattle.schema_elements.specs.declared.logical_types.Logical.{Logical}
use Rattle.schema_elements.specs.declared.unions.Inside.{Inside}
use Rattle.schema_elements.specs.declared.members.MemberSlots.{MemberSlots}

-- What a table says of a field.

abbrev pub shape_in : Shapes → ℤ → Option Shape
shape_in unknown id = None
shape_in (known i s ss) id = if int_eq id (pos i) then Some s else shape_in ss id

pub in_table : (ss : Shapes) (id : ℤ) (s : Shape) (v : Value) → shape_in ss id ≡ Some s → Fits s v → FitsField ss id v
in_table unknown id s v e f = absurd (let no : ⊥ = cc in no)
in_table (known i own ss) id s v e f = by (int_eq id (pos i)) refl (λ h. in_table ss id s v h f)
  where
    by : (b : Bool) → int_eq id (pos i) ≡ b → (shape_in ss id ≡ Some s → FitsField ss id v) → FitsField (known i own ss) id v
    by true h more =
        let found : Some own ≡ Some s = rw h at e in
        let is : own ≡ s = cc in
        inl (h, subst (λ (x : Shape). Fits x v) (sym is) f)
    by false h more = inr (h, more (rw h at e))

-- Small numbers, one by one.

pub flag_cases : (P : ℤ → Type 0) (z : ℤ) → IsFlag z → P (pos 0) → P (pos 1) → P z
flag_cases P (pos zero) f a b = a
flag_cases P (pos (suc zero)) f a b = b
flag_cases P (pos (suc (suc n))) f a b = absurd (grind (arith, nat_tests))
flag_cases P (negsuc n) f a b = absurd (grind (arith, nat_tests))

unit_cases : (P : ℤ → Type 0) (z : ℤ) → IsUnit z → P (pos 1) → P (pos 2) → P (pos 3) → P z
unit_cases P (pos zero) f a b c = absurd (grind (arith, nat_tests))
unit_cases P (pos (suc zero)) f a b c = a
unit_cases P (pos (suc (suc zero))) f a b c = b
unit_cases P (pos (suc (suc (suc zero)))) f a b c = c
unit_cases P (pos (suc (suc (suc (suc n))))) f a b c = absurd (grind (arith, nat_tests))
unit_cases P (negsuc n) f a b c = absurd (grind (arith, nat_tests))

small_range : (z : ℤ) → IsI8 z → zigzag z < 2 ^ 8
small_range (pos n) f = (let h : n ≤ 127 = grind (arith, nat_tests) in omega (arith, h))
small_range (negsuc n) f = (let h : n ≤ 127 = grind (arith, nat_tests) in omega (arith, h))

none_is : (x : Option ℤ) → IfSome x IsNone → x ≡ None
none_is None h = refl
none_is (Some z) h = absurd h

-- What a member holds.

slots : Slot ℤ → Slot ℤ → MemberSlots
slots a b = record { first = a; second = b }

abbrev inside : Logical → Inside
inside l = record { first = l.first; second = l.second }

finished : (x y : Option ℤ) → member_finish (slots (slot_of x) (slot_of y)) ≡ Some (record { first = x; second = y })
unfolding member_finish slots
finished x y = rw (optional_slot x, optional_slot y) refl

decimal_again : (l : Logical) → decimal_of (decimal_fields l) ≡ Some (inside l)
unfolding filled decimal_put decimal_fields slots
decimal_again l =
    rw (
      step decimal_put (λ x. slots x Missing) (pos 1) i32_value l.first _ (λ a e. refl),
      step decimal_put (λ x. slots (slot_of l.first) x) (pos 2) i32_value l.second _ (λ a e. refl),
    ) (finished l.first l.second)

unit_again : (z : ℤ) → IsUnit z → unit_of (unit_fields z) ≡ Some z
unfolding filled unit_put unit_fields met member_of member_finish
unit_again z f = unit_cases (λ x. unit_of (unit_fields x) ≡ Some x) z f refl refl refl

unit_known : (x : Option ℤ) → IfSome x IsUnit → known_unit x ≡ x
unit_known None h = refl
unit_known (Some z) h = unit_cases (λ x. known_unit (Some x) ≡ Some x) z h refl refl refl

time_finished : (x y : Option ℤ) → IfSome y IsUnit → time_finish (slots (slot_of x) (slot_of y)) ≡ Some (record { first = x; second = y })
unfolding time_finish slots
time_finished x y h = rw (optional_slot x, optional_slot y, unit_known y h) refl

time_again : (l : Logical) → Holds l IsFlag IsUnit → time_of (time_fields l) ≡ Some (inside l)
unfolding filled time_put time_fields slots
time_again l f =
    rw (
      step time_put (λ x. slots x Missing) (pos 1) flag_value l.first _ (λ a e. flag_cases (λ x. time_put (slots Missing Missing) (pos 1) (flag_value x) ≡ slots (Found x) Missing) a (subst (λ (x : Option ℤ). IfSome x IsFlag) e f.0) refl refl),
      step time_put (λ x. slots (slot_of l.first) x) (pos 2) unit_value l.second _ (λ a e. rw (unit_again a (subst (λ (x : Option ℤ). IfSome x IsUnit) e f.1)) refl),
    ) (time_finished l.first l.second f.1)

integer_again : (l : Logical) → Holds l IsI8 IsFlag → integer_of (integer_fields l) ≡ Some (inside l)
unfolding filled integer_put integer_fields slots
integer_again l f =
    rw (
      step integer_put (λ x. slots x Missing) (pos 1) small_value l.first _ (λ a e. refl),
      step integer_put (λ x. slots (slot_of l.first) x) (pos 2) flag_value l.second _ (λ a e. flag_cases (λ x. integer_put (slots (slot_of l.first) Missing) (pos 2) (flag_value x) ≡ slots (slot_of l.first) (Found x)) a (subst (λ (x : Option ℤ). IfSome x IsFlag) e f.1) refl refl),
    ) (finished l.first l.second)

variant_again : (l : Logical) → Holds l IsI8 IsNone → variant_of (variant_fields l) ≡ Some (inside l)
unfolding filled variant_put variant_fields slots
variant_again l f =
    rw (
      step variant_put (λ x. slots x Missing) (pos 1) small_value l.first _ (λ a e. refl),
      none_is l.second f.1,
    ) (finished l.first None)

-- LogicalType, member by member.

abbrev logical : ℤ → Option ℤ → Option ℤ → Logical
logical m x y = record { member = m; first = x; second = y }

abbrev LogicalAgain : ℤ → Type 0
LogicalAgain m = (x y : Option ℤ) → IsLogical (logical m x y) → logical_of (logical_fields (logical m x y)) ≡ Some (logical m x y)

-- a member by what it holds

abbrev MemberAgain : ℕ → (Fields → Option Inside) → Type 0
MemberAgain i read = (v : Value) (a : Inside) → struct_in read v ≡ Some a → logical_of (with_field (pos i) v no_fields) ≡ Some (logical (pos i) a.first a.second)

at_decimal : MemberAgain 5 decimal_of
unfolding filled logical_put logical_finish met
at_decimal v a e = rw e refl

at_time : MemberAgain 7 time_of
unfolding filled logical_put logical_finish met
at_time v a e = rw e refl

at_timestamp : MemberAgain 8 time_of
unfolding filled logical_put logical_finish met
at_timestamp v a e = rw e refl

at_integer : MemberAgain 10 integer_of
unfolding filled logical_put logical_finish met
at_integer v a e = rw e refl

at_variant : MemberAgain 16 variant_of
unfolding filled logical_put logical_finish met
at_variant v a e = rw e refl

abbrev NoneAgain : ℕ → Type 0
NoneAgain i = logical_of (logical_fields (logical (pos i) None None)) ≡ Some (logical (pos i) None None)

plain_again : (i : ℕ) → NoneAgain i → (x y : Option ℤ) → Holds (logical (pos i) x y) IsNone IsNone → logical_of (logical_fields (logical (pos i) x y)) ≡ Some (logical (pos i) x y)
plain_again i e x y h = rw (none_is x h.0, none_is y h.1) e

-- each member of a list

abbrev EachMember : (ℤ → Type 0) → List ℕ → Type 0
EachMember P [] = Unit {0}
EachMember P (i ∷ is) = P (pos i) × EachMember P is

among : (P : ℤ → Type 0) (is : List ℕ) (m : ℤ) → EachMember P is → list_any (λ i. int_eq m (pos i)) is ≡ true → P m
among P [] m all e = absurd (let no : ⊥ = cc in no)
among P (i ∷ is) m all e = by (int_eq m (pos i)) refl (λ h. among P is m all.1 h)
  where
    by : (b : Bool) → int_eq m (pos i) ≡ b → (list_any (λ j. int_eq m (pos j)) is ≡ true → P m) → P m
    by true h more = (let is : m ≡ pos i = (Decides-int_eq m (pos i)).0 h in subst P (sym is) all.0)
    by false h more = more (rw h at e)

none_again : (i : ℕ) → NoneAgain i → has_fields (pos i) ≡ false → LogicalAgain (pos i)
none_again i e p x y g = plain_again i e x y (g.plain p)

each_again : EachMember LogicalAgain (0 ∷ members)
unfolding filled logical_put logical_finish logical_fields met member_finish
each_again = (
  none_again 0 refl refl,
  (
    none_again 1 refl refl,
    (
      none_again 2 refl refl,
      (
        none_again 3 refl refl,
        (
          none_again 4 refl refl,
          (
            λ x y g. at_decimal (struct_value (decimal_fields (logical (pos 5) x y))) _ (decimal_again (logical (pos 5) x y)),
            (
              none_again 6 refl refl,
              (
                λ x y g. at_time (struct_value (time_fields (logical (pos 7) x y))) _ (time_again (logical (pos 7) x y) (g.time refl)),
                (
                  λ x y g. at_timestamp (struct_value (time_fields (logical (pos 8) x y))) _ (time_again (logical (pos 8) x y) (g.time refl)),
                  (
                    λ x y g. at_integer (struct_value (integer_fields (logical (pos 10) x y))) _ (integer_again (logical (pos 10) x y) (g.integer refl)),
                    (
                      none_again 11 refl refl,
                      (
                        none_again 12 refl refl,
                        (
                          none_again 13 refl refl,
                          (
                            none_again 14 refl refl,
                            (
                              none_again 15 refl refl,
                              (
                                λ x y g. at_variant (struct_value (variant_fields (logical (pos 16) x y))) _ (variant_again (logical (pos 16) x y) (g.variant refl)),
                                tt,
                              ),
                            ),
                          ),
                        ),
                      ),
                    ),
                  ),
                ),
              ),
            ),
          ),
        ),
      ),
    ),
  ),
)

pub logical_again : (l : Logical) → IsLogical l → logical_of (logical_fields l) ≡ Some l
logical_again l f = among LogicalAgain (0 ∷ members) l.member each_again f.known l.first l.second f

-- What the tables allow.

decimal_fit : (l : Logical) → Holds l IsI32 IsI32 → AllFields (FitsField decimal_shapes) 0 (decimal_fields l)
unfolding decimal_shapes decimal_fields
decimal_fit l f =
    let f2 : Fields = maybe (pos 2) i32_value l.second no_fields in
    maybe_fit (FitsField decimal_shapes) 0 1 i32_value l.first f2 (omega arith) (omega arith) (λ a e. in_table decimal_shapes (pos 1) i32s (i32_value a) refl (subst (λ (x : Option ℤ). IfSome x IsI32) e f.0)) (
    maybe_fit (FitsField decimal_shapes) 1 2 i32_value l.second no_fields (omega arith) (omega arith) (λ a e. in_table decimal_shapes (pos 2) i32s (i32_value a) refl (subst (λ (x : Option ℤ). IfSome x IsI32) e f.1)) tt)

unit_fit : (z : ℤ) → IsUnit z → AllFields (FitsField unit_shapes) 0 (unit_fields z)
unfolding unit_shapes unit_fields
unit_fit z f = unit_cases (λ x. AllFields (FitsField unit_shapes) 0 (unit_fields x)) z f (
  refl,
  omega arith,
  omega arith,
  in_table unit_shapes (pos 1) (structs unknown) (struct_value no_fields) refl tt,
  tt,
) (
  refl,
  omega arith,
  omega arith,
  in_table unit_shapes (pos 2) (structs unknown) (struct_value no_fields) refl tt,
  tt,
) (
  refl,
  omega arith,
  omega arith,
  in_table unit_shapes (pos 3) (structs unknown) (struct_value no_fields) refl tt,
  tt,
)

time_fit : (l : Logical) → Holds l IsFlag IsUnit → AllFields (FitsField time_shapes) 0 (time_fields l)
unfolding time_shapes time_fields
time_fit l f =
    let f2 : Fields = maybe (pos 2) unit_value l.second no_fields in
    maybe_fit (FitsField time_shapes) 0 1 flag_value l.first f2 (omega arith) (omega arith) (λ a e. in_table time_shapes (pos 1) bools (flag_value a) refl tt) (
    maybe_fit (FitsField time_shapes) 1 2 unit_value l.second no_fields (omega arith) (omega arith) (λ a e. in_table time_shapes (pos 2) (structs unit_shapes) (unit_value a) refl (unit_fit a (subst (λ (x : Option ℤ). IfSome x IsUnit) e f.1))) tt)

integer_fit : (l : Logical) → Holds l IsI8 IsFlag → AllFields (FitsField integer_shapes) 0 (integer_fields l)
unfolding integer_shapes integer_fields
integer_fit l f =
    let f2 : Fields = maybe (pos 2) flag_value l.second no_fields in
    maybe_fit (FitsField integer_shapes) 0 1 small_value l.first f2 (omega arith) (omega arith) (λ a e. in_table integer_shapes (pos 1) i8s (small_value a) refl (small_range a (subst (λ (x : Option ℤ). IfSome x IsI8) e f.0))) (
    maybe_fit (FitsField integer_shapes) 1 2 flag_value l.second no_fields (omega arith) (omega arith) (λ a e. in_table integer_shapes (pos 2) bools (flag_value a) refl tt) tt)

variant_fit : (l : Logical) → Holds l IsI8 IsNone → AllFields (FitsField variant_shapes) 0 (variant_fields l)
unfolding variant_shapes variant_fields
variant_fit l f =
    maybe_fit (FitsField variant_shapes) 0 1 small_value l.first no_fields (omega arith) (omega arith) (λ a e. in_table variant_shapes (pos 1) i8s (small_value a) refl (small_range a (subst (λ (x : Option ℤ). IfSome x IsI8) e f.0))) tt

abbrev LogicalFits : ℤ → Type 0
LogicalFits m = (x y : Option ℤ) → IsLogical (logical m x y) → AllFields (FitsField logical_shapes) 0 (logical_fields (logical m x y))

-- a member of a shape
member_fit : (i : ℕ) (ss : Shapes) (fs : Fields) → shape_in logical_shapes (pos i) ≡ Some (structs ss) → 0 < i → i < 2 ^ 15 → AllFields (FitsField ss) 0 fs → AllFields (FitsField logical_shapes) 0 (with_field (pos i) (struct_value fs) no_fields)
member_fit i ss fs e low small f = (refl, low, small, in_table logical_shapes (pos i) (structs ss) (struct_value fs) e f, tt)

each_fit : EachMember LogicalFits (0 ∷ members)
unfolding logical_fields logical_shapes
each_fit = (
  λ x y g. tt,
  (
    λ x y g. member_fit 1 unknown no_fields refl (omega arith) (omega arith) tt,
    (
      λ x y g. member_fit 2 unknown no_fields refl (omega arith) (omega arith) tt,
      (
        λ x y g. member_fit 3 unknown no_fields refl (omega arith) (omega arith) tt,
        (
          λ x y g. member_fit 4 unknown no_fields refl (omega arith) (omega arith) tt,
          (
            λ x y g. member_fit 5 decimal_shapes (decimal_fields (logical (pos 5) x y)) refl (omega arith) (omega arith) (decimal_fit (logical (pos 5) x y) (g.decimal refl)),
            (
              λ x y g. member_fit 6 unknown no_fields refl (omega arith) (omega arith) tt,
              (
                λ x y g. member_fit 7 time_shapes (time_fields (logical (pos 7) x y)) refl (omega arith) (omega arith) (time_fit (logical (pos 7) x y) (g.time refl)),
                (
                  λ x y g. member_fit 8 time_shapes (time_fields (logical (pos 8) x y)) refl (omega arith) (omega arith) (time_fit (logical (pos 8) x y) (g.time refl)),
                  (
                    λ x y g. member_fit 10 integer_shapes (integer_fields (logical (pos 10) x y)) refl (omega arith) (omega arith) (integer_fit (logical (pos 10) x y) (g.integer refl)),
                    (
                      λ x y g. member_fit 11 unknown no_fields refl (omega arith) (omega arith) tt,
                      (
                        λ x y g. member_fit 12 unknown no_fields refl (omega arith) (omega arith) tt,
                        (
                          λ x y g. member_fit 13 unknown no_fields refl (omega arith) (omega arith) tt,
                          (
                            λ x y g. member_fit 14 unknown no_fields refl (omega arith) (omega arith) tt,
                            (
                              λ x y g. member_fit 15 unknown no_fields refl (omega arith) (omega arith) tt,
                              (
                                λ x y g. member_fit 16 variant_shapes (variant_fields (logical (pos 16) x y)) refl (omega arith) (omega arith) (variant_fit (logical (pos 16) x y) (g.variant refl)),
                                tt,
                              ),
                            ),
                          ),
                        ),
                      ),
                    ),
                  ),
                ),
              ),
            ),
          ),
        ),
      ),
    ),
  ),
)

pub logical_fit : (l : Logical) → IsLogical l → AllFields (FitsField logical_shapes) 0 (logical_fields l)
logical_fit l f = among LogicalFits (0 ∷ members) l.member each_fit f.known l.first l.second f

pub logical_read_back : (l : Logical) (rest : List ℕ) → IsLogical l → mapped logical_of (struct_at (known_at logical_shapes) (fields_coded 0 (logical_fields l) ++ rest)) ≡ Ok (Some l, rest)
logical_read_back l rest f = struct_back logical_shapes logical_of l (logical_fields l) rest (logical_fit l f) (logical_again l f)

-- SchemaElement

abbrev element_slots : Slot ℤ → Slot ℤ → Slot ℤ → Slot (List ℕ) → Slot ℤ → Slot ℤ → Slot ℤ → Slot ℤ → Slot Logical → ElementSlots
element_slots a b c d j k m n p = record {
  kind = a;
  type_length = b;
  repetition_type = c;
  name = d;
  num_children = j;
  converted_type = k;
  scale = m;
  precision = n;
  logical_type = p;
}

-- fields 1 to 4
type_filled : (e : SchemaElement) (fs : Fields) → is_utf8 e.name ≡ true → filled element_put element_start (type_fields e fs) ≡ filled element_put (element_slots (slot_of e.kind) (slot_of e.type_length) (slot_of e.repetition_type) (Found e.name) Missing Missing Missing Missing Missing) fs
unfolding filled element_put type_fields
type_filled e fs h =
    let f4 : Fields = with_field (pos 4) (binary_value e.name) fs in
    let f3 : Fields = maybe (pos 3) i32_value e.repetition_type f4 in
    let f2 : Fields = maybe (pos 2) i32_value e.type_length f3 in
    step element_put (λ x. element_slots x Missing Missing Missing Missing Missing Missing Missing Missing) (pos 1) i32_value e.kind f2 (λ a q. refl)
    ∙ step element_put (λ x. element_slots (slot_of e.kind) x Missing Missing Missing Missing Missing Missing Missing) (pos 2) i32_value e.type_length f3 (λ a q. refl)
    ∙ step element_put (λ x. element_slots (slot_of e.kind) (slot_of e.type_length) x Missing Missing Missing Missing Missing Missing) (pos 3) i32_value e.repetition_type f4 (λ a q. refl)
    ∙ rw h refl

element_filled : (e : SchemaElement) → is_utf8 e.name ≡ true → IfSome e.logical_type IsLogical → filled element_put element_start (element_fields e) ≡ element_slots (slot_of e.kind) (slot_of e.type_length) (slot_of e.repetition_type) (Found e.name) (slot_of e.num_children) (slot_of e.converted_type) (slot_of e.scale) (slot_of e.precision) (slot_of e.logical_type)
unfolding filled element_put element_fields
element_filled e h f =
    let set = element_slots (slot_of e.kind) (slot_of e.type_length) (slot_of e.repetition_type) (Found e.name) in
    let f10 : Fields = maybe (pos 10) logical_tree e.logical_type no_fields in
    let f8 : Fields = maybe (pos 8) i32_value e.precision f10 in
    let f7 : Fields = maybe (pos 7) i32_value e.scale f8 in
    let f6 : Fields = maybe (pos 6) i32_value e.converted_type f7 in
    let f5 : Fields = maybe (pos 5) i32_value e.num_children f6 in
    type_filled e f5 h
    ∙ step element_put (λ x. set x Missing Missing Missing Missing) (pos 5) i32_value e.num_children f6 (λ a q. refl)
    ∙ step element_put (λ x. set (slot_of e.num_children) x Missing Missing Missing) (pos 6) i32_value e.converted_type f7 (λ a q. refl)
    ∙ step element_put (λ x. set (slot_of e.num_children) (slot_of e.converted_type) x Missing Missing) (pos 7) i32_value e.scale f8 (λ a q. refl)
    ∙ step element_put (λ x. set (slot_of e.num_children) (slot_of e.converted_type) (slot_of e.scale) x Missing) (pos 8) i32_value e.precision f10 (λ a q. refl)
    ∙ step element_put (λ x. set (slot_of e.num_children) (slot_of e.converted_type) (slot_of e.scale) (slot_of e.precision) x) (pos 10) logical_tree e.logical_type no_fields (λ a q. rw (logical_again a (subst (λ (x : Option Logical). IfSome x IsLogical) q f)) refl)

children_slot : (x : Option ℤ) → IfSome x (λ n. IsCount n × IsI32 n) → optional_counted (slot_of x) ≡ Some x
children_slot None f = refl
children_slot (Some z) f = rw (not_negative z f.0) refl

pub element_again : (e : SchemaElement) → ElementReadsBack e → element_of (element_fields e) ≡ Some e
unfolding element_finish
element_again e f =
    rw (
      element_filled e f.utf8 f.logical_type,
      optional_slot e.kind,
      optional_slot e.type_length,
      optional_slot e.repetition_type,
      children_slot e.num_children f.num_children,
      optional_slot e.converted_type,
      optional_slot e.scale,
      optional_slot e.precision,
      optional_slot e.logical_type,
    ) refl

number_fit : (i : ℕ) (x : Option ℤ) (a : ℤ) → shape_in element_shapes (pos i) ≡ Some i32s → IfSome x IsI32 → x ≡ Some a → FitsField element_shapes (pos i) (i32_value a)
number_fit i x a e f q = in_table element_shapes (pos i) i32s (i32_value a) e (subst (λ (y : Option ℤ). IfSome y IsI32) q f)

children_i32 : (x : Option ℤ) → IfSome x (λ n. IsCount n × IsI32 n) → IfSome x IsI32
children_i32 None f = tt
children_i32 (Some z) f = f.1

pub element_fit : (e : SchemaElement) → ElementReadsBack e → AllFields (FitsField element_shapes) 0 (element_fields e)
unfolding element_shapes element_fields type_fields
element_fit e f =
    let f10 : Fields = maybe (pos 10) logical_tree e.logical_type no_fields in
    let f8 : Fields = maybe (pos 8) i32_value e.precision f10 in
    let f7 : Fields = maybe (pos 7) i32_value e.scale f8 in
    let f6 : Fields = maybe (pos 6) i32_value e.converted_type f7 in
    let f5 : Fields = maybe (pos 5) i32_value e.num_children f6 in
    let f4 : Fields = with_field (pos 4) (binary_value e.name) f5 in
    let f3 : Fields = maybe (pos 3) i32_value e.repetition_type f4 in
    let f2 : Fields = maybe (pos 2) i32_value e.type_length f3 in
    let allowed = FitsField element_shapes in
    maybe_fit allowed 0 1 i32_value e.kind f2 (omega arith) (omega arith) (λ a q. number_fit 1 e.kind a refl f.kind q) (
    maybe_fit allowed 1 2 i32_value e.type_length f3 (omega arith) (omega arith) (λ a q. number_fit 2 e.type_length a refl f.type_length q) (
    maybe_fit allowed 2 3 i32_value e.repetition_type f4 (omega arith) (omega arith) (λ a q. number_fit 3 e.repetition_type a refl f.repetition_type q) (
      refl,
      omega arith,
      omega arith,
      in_table element_shapes (pos 4) binaries (binary_value e.name) refl f.name,
      maybe_fit allowed 4 5 i32_value e.num_children f6 (omega arith) (omega arith) (λ a q. number_fit 5 e.num_children a refl (children_i32 e.num_children f.num_children) q) (
          maybe_fit allowed 5 6 i32_value e.converted_type f7 (omega arith) (omega arith) (λ a q. number_fit 6 e.converted_type a refl f.converted_type q) (
          maybe_fit allowed 6 7 i32_value e.scale f8 (omega arith) (omega arith) (λ a q. number_fit 7 e.scale a refl f.scale q) (
          maybe_fit allowed 7 8 i32_value e.precision f10 (omega arith) (omega arith) (λ a q. number_fit 8 e.precision a refl f.precision q) (
          maybe_fit allowed 8 10 logical_tree e.logical_type no_fields (omega arith) (omega arith) (λ a q. in_table element_shapes (pos 10) (structs logical_shapes) (logical_tree a) refl (logical_fit a (subst (λ (x : Option Logical). IfSome x IsLogical) q f.logical_type))) tt)))),
    )))

pub element_read_back : (e : SchemaElement) (rest : List ℕ) → ElementReadsBack e → mapped element_of (struct_at (known_at element_shapes) (fields_coded 0 (element_fields e) ++ rest)) ≡ Ok (Some e, rest)
element_read_back e rest f = struct_back element_shapes element_of e (element_fields e) rest (element_fit e f) (element_again e f)
