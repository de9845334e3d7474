-- The names of an object that a value means don't repeat.
use Rattle.std.proofs.Common.{◌≡◌, ◌∙◌, refl, sym, ap, subst, ℕ, zero, suc, ◌+◌, ◌-◌, ◌==◌, nat_lt, nat_le, Bool, true, false, cond, List, [], ◌∷◌, length, slice_index, unsigned_abs, Result, Ok, Err}
use Rattle.std.specs.Prelude.{is_ok}
use Rattle.std.specs.List.{list_any}
use Rattle.std.specs.Str.{is_utf8, bytes_eq}
use Rattle.std.proofs.lemmas.Bool.{and_parts}
use Rattle.exact_num.specs.Unscaled.{little_integer}
use Rattle.json_tree.specs.Json.{Json, null, boolean, array, object, Fields, parts_of, fields_of, names_of}
use Rattle.json_tree.proofs.MembersMade.{field_names}
use Rattle.vs_bytes.specs.Names.{repeats}
use Rattle.vs_bytes.specs.Numbers.{part}
use Rattle.vs_bytes.specs.Outcome.{◌>>=◌}
use Rattle.vs_bytes.specs.declared.rule.Rule.{Rule}
use Rattle.vs_bytes.specs.declared.rule.Rule.TheVariants.{ValueShort}
use Rattle.variant_meta.specs.Names.{is_before, rise_after, names_rise}
use Rattle.variant_meta.proofs.Places.{after_apart, before_trans}
use Rattle.variant_read.specs.Items.{items_in, items_held, members_held, member_names, or_none}
use Rattle.variant_read.specs.Layout.{is_object, container_size, type_header, basic_type}
use Rattle.variant_read.specs.Meaning.{max_nesting, members_from, with_items, container, by_basic_type, value_of, value_within, means, json_in}
use Rattle.variant_read.specs.Primitives.{Meaning, Kind, constant_kind, unread_kind, decimal, integer_kind, decimal_kind, max_scale, unscaled_bound, text_at, short_string, string_kind, kind_of, primitive}
use Rattle.variant_read.proofs.Members.{held_names_rise}

-- Names that rise don't repeat.

rise_lower : (a b : List ℕ) (names : List (List ℕ)) → is_before a b ≡ true → rise_after b names ≡ true → rise_after a names ≡ true
rise_lower a b [] before rise = refl
rise_lower a b (name ∷ names) before rise =
    let parts = and_parts (is_before b name) (rise_after name names) rise in
    rw (before_trans a b name before parts.0) parts.1

rise_apart : (name : List ℕ) (names : List (List ℕ)) → rise_after name names ≡ true → list_any (λ other. bytes_eq other name) names ≡ false
rise_apart name [] rise = refl
rise_apart name (other ∷ names) rise =
    let parts = and_parts (is_before name other) (rise_after other names) rise in
    rw (after_apart name other parts.0) (rise_apart name names (rise_lower name other names parts.0 parts.1))

after_once : (name : List ℕ) (names : List (List ℕ)) → rise_after name names ≡ true → repeats (name ∷ names) ≡ false
after_once name [] rise = refl
after_once name (other ∷ names) rise =
    let parts = and_parts (is_before name other) (rise_after other names) rise in
    rw (rise_apart name (other ∷ names) rise) (after_once other names parts.1)

rise_once : (names : List (List ℕ)) → names_rise names ≡ true → repeats names ≡ false
rise_once [] rise = refl
rise_once (name ∷ names) rise = after_once name names rise

-- What holds no other values is no object.

abbrev gives_object : Meaning → Bool
gives_object (Ok (object fs, size)) = true
gives_object meaning = false

abbrev IsPlain : Kind → Type 0
IsPlain kind = (bytes : List ℕ) → gives_object (kind bytes) ≡ false

neither_gives : (b : Bool) (x y : Meaning) → gives_object x ≡ false → gives_object y ≡ false → gives_object (cond b x y) ≡ false
neither_gives true x y e f = e
neither_gives false x y e f = f

plain_if : (b : Bool) (k m : Kind) → IsPlain k → IsPlain m → IsPlain (cond b k m)
plain_if true k m e f = e
plain_if false k m e f = f

unread_plain : (rule : Rule) → IsPlain (unread_kind rule)
unfolding unread_kind
unread_plain rule bytes = refl

null_plain : IsPlain (constant_kind null)
unfolding constant_kind
null_plain bytes = refl

truth_plain : (b : Bool) → IsPlain (constant_kind (boolean b))
unfolding constant_kind
truth_plain b bytes = refl

integer_plain : (w : ℕ) → IsPlain (integer_kind w)
unfolding integer_kind decimal
integer_plain w bytes = neither_gives (nat_lt (length bytes) (1 + w)) _ _ refl refl

decimal_plain : (w : ℕ) → IsPlain (decimal_kind w)
unfolding decimal_kind decimal
decimal_plain w bytes =
    neither_gives (nat_lt (length bytes) (2 + w)) _ _ refl
    (neither_gives (nat_lt max_scale (slice_index bytes 1)) _ _ refl
    (neither_gives (nat_le unscaled_bound (unsigned_abs (little_integer bytes 2 w))) _ _ refl refl))

text_plain : (at len : ℕ) → IsPlain (text_at at len)
unfolding text_at
text_plain at len bytes =
    neither_gives (nat_lt (length bytes) (at + len)) _ _ refl (neither_gives (is_utf8 (part bytes at len)) _ _ refl refl)

short_plain : IsPlain short_string
unfolding short_string
short_plain bytes = text_plain 1 (type_header bytes) bytes

string_plain : IsPlain string_kind
unfolding string_kind
string_plain bytes = text_plain _ _ bytes

kind_plain : (id : ℕ) → IsPlain (kind_of id)
unfolding kind_of
kind_plain id =
    plain_if (id == 0) _ _ null_plain
    (plain_if (id == 1) _ _ (truth_plain true)
    (plain_if (id == 2) _ _ (truth_plain false)
    (plain_if (id == 3) _ _ (integer_plain 1)
    (plain_if (id == 4) _ _ (integer_plain 2)
    (plain_if (id == 5) _ _ (integer_plain 4)
    (plain_if (id == 6) _ _ (integer_plain 8)
    (plain_if (id == 7) _ _ (unread_plain _)
    (plain_if (id == 8) _ _ (decimal_plain 4)
    (plain_if (id == 9) _ _ (decimal_plain 8)
    (plain_if (id == 10) _ _ (decimal_plain 16)
    (plain_if (id == 14) _ _ (unread_plain _)
    (plain_if (id == 16) _ _ string_plain
    (plain_if (nat_le id 20) _ _ (unread_plain _) (unread_plain _))))))))))))))

primitive_plain : IsPlain primitive
unfolding primitive
primitive_plain bytes = kind_plain (type_header bytes) bytes

-- An object is a container's.

not_plain : (meaning : Meaning) (fs : Fields) (size : ℕ) → gives_object meaning ≡ false → meaning ≡ Ok (object fs, size) → ⊥
not_plain meaning fs size plain e = let wrong : true ≡ false = sym (ap gives_object e) ∙ plain in cc

object_inside : (inside : Kind) (bytes : List ℕ) (fs : Fields) (size : ℕ) → value_of inside bytes ≡ Ok (object fs, size) → inside bytes ≡ Ok (object fs, size)
unfolding value_of by_basic_type
object_inside inside bytes fs size h = by (length bytes == 0) (basic_type bytes == 0) (basic_type bytes == 1) h
  where
    by : (a b c : Bool) → cond a (Err ValueShort) (cond b primitive (cond c short_string inside) bytes) ≡ Ok (object fs, size) → inside bytes ≡ Ok (object fs, size)
    by true b c e = absurd cc
    by false true c e = absurd (not_plain (primitive bytes) fs size (primitive_plain bytes) e)
    by false false true e = absurd (not_plain (short_string bytes) fs size (short_plain bytes) e)
    by false false false e = e

members_once : (names : List (List ℕ)) (room : ℕ) (bytes : List ℕ) (items : List Json) → is_object bytes ≡ true → items_in names room bytes ≡ Ok items
    → repeats (names_of (fields_of (members_from names bytes 0 items))) ≡ false
unfolding members_held items_held
members_once names room bytes items is e =
    let ok : is_ok (items_in names room bytes) ≡ true = ap is_ok e in
    let held : members_held names room bytes ≡ members_from names bytes 0 items = ap (λ (found : Result (List Json) Rule). members_from names bytes 0 (or_none found)) e in
    rw (sym held, field_names (members_held names room bytes)) (rise_once (member_names (members_held names room bytes)) (held_names_rise names room bytes is ok))

whole_once : (names : List (List ℕ)) (room : ℕ) (bytes : List ℕ) (items : List Json) (fs : Fields) → items_in names room bytes ≡ Ok items → with_items names bytes items ≡ object fs
    → repeats (names_of fs) ≡ false
unfolding with_items
whole_once names room bytes items fs e h = by (is_object bytes) refl h
  where
    by : (b : Bool) → is_object bytes ≡ b → cond b (object (fields_of (members_from names bytes 0 items))) (array (parts_of items)) ≡ object fs → repeats (names_of fs) ≡ false
    by true is f =
        let same : fields_of (members_from names bytes 0 items) ≡ fs = cc in
        subst (λ (ms : Fields). repeats (names_of ms) ≡ false) same (members_once names room bytes items is e)
    by false is f = absurd cc

given_first : (p q : Json × ℕ) → ◌≡◌ {A = Meaning} (Ok p) (Ok q) → p.0 ≡ q.0
given_first p q h = let same : p ≡ q = cc in ap (λ r. r.0) same

container_once : (names : List (List ℕ)) (room : ℕ) (bytes : List ℕ) (fs : Fields) (size : ℕ) → container names (value_within names room) bytes ≡ Ok (object fs, size) → repeats (names_of fs) ≡ false
unfolding container items_in
container_once names room bytes fs size h = by (nat_lt (length bytes) (container_size bytes)) (items_in names room bytes) refl h
  where
    by : (b : Bool) (found : Result (List Json) Rule) → items_in names room bytes ≡ found
        → cond {A = Meaning} b (Err ValueShort) (found >>= λ items. Ok (with_items names bytes items, container_size bytes)) ≡ Ok (object fs, size) → repeats (names_of fs) ≡ false
    by true found e f = absurd cc
    by false (Err rule) e f = absurd cc
    by false (Ok items) e f =
        whole_once names room bytes items fs e (given_first (with_items names bytes items, container_size bytes) (object fs, size) f)

within_once : (names : List (List ℕ)) (room : ℕ) (bytes : List ℕ) (fs : Fields) (size : ℕ) → value_within names room bytes ≡ Ok (object fs, size) → repeats (names_of fs) ≡ false
unfolding value_within
within_once names zero bytes fs size h = absurd (not_plain _ fs size (unread_plain _ bytes) (object_inside _ bytes fs size h))
within_once names (suc room) bytes fs size h = container_once names room bytes fs size (object_inside (container names (value_within names room)) bytes fs size h)

pub object_once : (names : List (List ℕ)) (bytes : List ℕ) (above : ℕ) (fs : Fields) → json_in (means names bytes above) ≡ Ok (object fs) → repeats (names_of fs) ≡ false
unfolding means
object_once names bytes above fs h = by (means names bytes above) refl h
  where
    by : (meaning : Meaning) → means names bytes above ≡ meaning → json_in meaning ≡ Ok (object fs) → repeats (names_of fs) ≡ false
    by (Err rule) e f = absurd cc
    by (Ok (j, size)) e f =
        let same : j ≡ object fs = cc in
        within_once names (max_nesting - above) bytes fs size (e ∙ ap (λ (read : Json). Ok (read, size)) same)
