-- Members whose names rise are in order as they stand.
use Rattle.std.proofs.Common.{◌≡◌, ◌∙◌, refl, sym, ap, subst, ℕ, false, List, [], ◌∷◌, map}
use Rattle.std.proofs.lemmas.List.Sorted.{IsPermutation-refl}
use Rattle.vs_bytes.specs.Names.{repeats}
use Rattle.json_tree.specs.Json.{Json, object, Fields, no_fields, field, fields_of, names_of}
use Rattle.json_tree.specs.Order.{NamesRise, sorted}
use Rattle.json_tree.proofs.MembersOrder.{Rise, no_repeats, sorted_is}
use Rattle.exact_json.specs.Meaning.{object_or_null}

abbrev pub members : Fields → List (List ℕ × Json)
members no_fields = []
members (field name j fs) = (name, j) ∷ members fs

members_back : (fs : Fields) → fields_of (members fs) ≡ fs
members_back no_fields = refl
members_back (field name j fs) = ap (λ rest. field name j rest) (members_back fs)

member_names : (fs : Fields) → map (λ m. m.0) (members fs) ≡ names_of fs
member_names no_fields = refl
member_names (field name j fs) = ap (λ rest. name ∷ rest) (member_names fs)

names_rise : (fs : Fields) → NamesRise fs → Rise (map (λ m. m.0) (members fs))
names_rise fs h = subst Rise (sym (member_names fs)) h

pub none_repeats : (fs : Fields) → NamesRise fs → repeats (map (λ m. m.0) (members fs)) ≡ false
none_repeats fs h = let names = map (λ m. m.0) (members fs) in no_repeats names names (IsPermutation-refl names) (names_rise fs h)

pub object_is : (fs : Fields) → NamesRise fs → object_or_null (members fs) ≡ object fs
object_is fs h =
    let once = none_repeats fs h in
    let same : members fs ≡ sorted (members fs) = sorted_is (members fs) (members fs) (IsPermutation-refl (members fs)) once (names_rise fs h) in
    rw once (ap (λ ms. object (fields_of ms)) (sym same) ∙ ap object (members_back fs))
