-- The members of an object, parted into those that fields name and the others, and merged again.
use Rattle.std.proofs.Common.{◌≡◌, ◌∙◌, refl, sym, ap, subst, ℕ, Bool, true, false, ◌||◌, not, cond, List, [], ◌∷◌, ◌++◌, Some, None}
use Rattle.std.specs.Prelude.{is_some}
use Rattle.std.specs.List.{list_any}
use Rattle.std.specs.List.Sorted.{IsPermutation}
use Rattle.std.specs.Str.{bytes_eq}
use Rattle.std.proofs.lemmas.Bool.{or_parts}
use Rattle.std.proofs.lemmas.List.Sorted.{IsPermutation-refl, IsPermutation-trans, IsPermutation-map, IsPermutation-middle, IsPermutation-cons, IsPermutation-append_right}
use Rattle.std.proofs.lemmas.Slice.Eq.{bytes_eq-Decides}
use Rattle.json_tree.specs.Json.{Json, Fields, no_fields, fields_of, names_of}
use Rattle.json_tree.specs.Json as json
use Rattle.json_tree.specs.Order.{NamesRise, member_of, sorted}
use Rattle.json_tree.proofs.MembersOrder.{Rise, names_in, no_repeats, sorted_is}
use Rattle.vs_bytes.specs.Names.{repeats}
use Rattle.variant_write.specs.Chosen.{chosen}
use Rattle.shred_schema.specs.Groups.{Groups, no_groups, field, field_names}
use Rattle.shredder.specs.Shredded.{is_named, unnamed, others}
use Rattle.unshredder.specs.Merging.{pairs_of, is_in_both, member}

neither : (b c : Bool) → b ≡ false → c ≡ false → b || c ≡ false
neither b c e f = rw (e, f) refl

bytes_eq_turned : (a b : List ℕ) → bytes_eq a b ≡ false → bytes_eq b a ≡ false
bytes_eq_turned a b e = by (bytes_eq b a) refl
  where
    by : (c : Bool) → bytes_eq b a ≡ c → c ≡ false
    by false f = refl
    by true f = let same : b ≡ a = (bytes_eq-Decides b a).0 f in let yes : bytes_eq a b ≡ true = (bytes_eq-Decides a b).1 (sym same) in let wrong : true ≡ false = sym yes ∙ e in absurd cc

-- The others have no field's name.

more_apart : (gs : Groups) (x : List ℕ) (j : Json) (fs : Fields) → is_named gs x ≡ false → is_in_both gs fs ≡ false → is_in_both gs (json.field x j fs) ≡ false
more_apart no_groups x j fs h i = refl
more_apart (field name n gs) x j fs h i =
    let names = or_parts (bytes_eq name x) (is_named gs x) h in
    let parts = or_parts (is_some (member_of name fs)) (is_in_both gs fs) i in
    rw (bytes_eq_turned name x names.0) (neither (is_some (member_of name fs)) (is_in_both gs (json.field x j fs)) parts.0 (more_apart gs x j fs names.1 parts.1))

none_apart : (gs : Groups) → is_in_both gs no_fields ≡ false
none_apart no_groups = refl
none_apart (field name n gs) = none_apart gs

pub others_apart : (gs : Groups) (fs : Fields) → is_in_both gs (others gs fs) ≡ false
others_apart gs no_fields = none_apart gs
others_apart gs (json.field x j fs) = by (is_named gs x) refl (others_apart gs fs)
  where
    by : (b : Bool) → is_named gs x ≡ b → is_in_both gs (others gs fs) ≡ false → is_in_both gs (chosen (not b ∷ unnamed gs fs) (json.field x j fs)) ≡ false
    by true e h = h
    by false e h = more_apart gs x j (others gs fs) e h

-- The members that fields name, field by field.

abbrev pub present : Groups → Fields → List (List ℕ × Json)
present no_groups fs = []
present (field name n gs) fs = member name (member_of name fs) ++ present gs fs

none_present : (gs : Groups) → present gs no_fields ≡ []
none_present no_groups = refl
none_present (field name n gs) = none_present gs

not_present : (gs : Groups) (x : List ℕ) (j : Json) (fs : Fields) → is_named gs x ≡ false → present gs (json.field x j fs) ≡ present gs fs
not_present no_groups x j fs h = refl
not_present (field name n gs) x j fs h =
    let names = or_parts (bytes_eq name x) (is_named gs x) h in
    rw (bytes_eq_turned name x names.0) (ap (λ (rest : List (List ℕ × Json)). member name (member_of name fs) ++ rest) (not_present gs x j fs names.1))

put_present : (gs : Groups) (x : List ℕ) (j : Json) (fs : Fields) → is_named gs x ≡ true → repeats (field_names gs) ≡ false → member_of x fs ≡ None → IsPermutation (present gs (json.field x j fs)) ((x, j) ∷ present gs fs)
put_present no_groups x j fs h differ lacks = absurd (let wrong : false ≡ true = h in cc)
put_present (field name n gs) x j fs h differ lacks =
    let names = or_parts (is_named gs name) (repeats (field_names gs)) differ in
    by (bytes_eq x name) refl names.0 (λ own. put_present gs x j fs own names.1 lacks)
  where
    here : x ≡ name → is_named gs name ≡ false → IsPermutation ((x, j) ∷ present gs (json.field x j fs)) ((x, j) ∷ (member name (member_of name fs) ++ present gs fs))
    here same apart =
        let missing : member_of name fs ≡ None = subst (λ (other : List ℕ). member_of other fs ≡ None) same lacks in
        let alone : is_named gs x ≡ false = subst (λ (other : List ℕ). is_named gs other ≡ false) (sym same) apart in
        rw (not_present gs x j fs alone, missing) (IsPermutation-refl ((x, j) ∷ present gs fs))

    named_there : (b : Bool) → bytes_eq name x ≡ b → bytes_eq x name ≡ false → b || is_named gs x ≡ true → is_named gs x ≡ true
    named_there false e f g = g
    named_there true e f g = let wrong : true ≡ false = sym e ∙ bytes_eq_turned x name f in absurd cc

    by : (b : Bool) → bytes_eq x name ≡ b → is_named gs name ≡ false → (is_named gs x ≡ true → IsPermutation (present gs (json.field x j fs)) ((x, j) ∷ present gs fs))
        → IsPermutation (member name (cond b (Some j) (member_of name fs)) ++ present gs (json.field x j fs)) ((x, j) ∷ (member name (member_of name fs) ++ present gs fs))
    by true e apart f =
        let same : x ≡ name = (bytes_eq-Decides x name).0 e in
        subst (λ (other : List ℕ). IsPermutation ((other, j) ∷ present gs (json.field x j fs)) ((x, j) ∷ (member name (member_of name fs) ++ present gs fs))) same (here same apart)
    by false e apart f =
        let own = member name (member_of name fs) in
        IsPermutation-trans (own ++ present gs (json.field x j fs)) (own ++ (x, j) ∷ present gs fs) ((x, j) ∷ (own ++ present gs fs))
        (IsPermutation-append_right own (present gs (json.field x j fs)) ((x, j) ∷ present gs fs) (f (named_there (bytes_eq name x) refl e h)))
        (IsPermutation-middle own (x, j) (present gs fs))

-- Both together are all members.

lacks_name : (x : List ℕ) (fs : Fields) → list_any (λ other. bytes_eq other x) (names_of fs) ≡ false → member_of x fs ≡ None
lacks_name x no_fields h = refl
lacks_name x (json.field name j fs) h =
    let parts = or_parts (bytes_eq name x) (list_any (λ other. bytes_eq other x) (names_of fs)) h in
    rw parts.0 (lacks_name x fs parts.1)

parted : (gs : Groups) (fs : Fields) → repeats (field_names gs) ≡ false → repeats (names_of fs) ≡ false → IsPermutation (pairs_of (others gs fs) ++ present gs fs) (pairs_of fs)
parted gs no_fields differ once = rw (none_present gs) (IsPermutation-refl [])
parted gs (json.field x j fs) differ once =
    let parts = or_parts (list_any (λ other. bytes_eq other x) (names_of fs)) (repeats (names_of fs)) once in
    by (is_named gs x) refl (lacks_name x fs parts.0) (parted gs fs differ parts.1)
  where
    by : (b : Bool) → is_named gs x ≡ b → member_of x fs ≡ None → IsPermutation (pairs_of (others gs fs) ++ present gs fs) (pairs_of fs)
        → IsPermutation (pairs_of (chosen (not b ∷ unnamed gs fs) (json.field x j fs)) ++ present gs (json.field x j fs)) ((x, j) ∷ pairs_of fs)
    by true e lacks p =
        let left = pairs_of (others gs fs) in
        IsPermutation-trans (left ++ present gs (json.field x j fs)) (left ++ (x, j) ∷ present gs fs) ((x, j) ∷ pairs_of fs)
        (IsPermutation-append_right left (present gs (json.field x j fs)) ((x, j) ∷ present gs fs) (put_present gs x j fs e differ lacks))
        (IsPermutation-trans (left ++ (x, j) ∷ present gs fs) ((x, j) ∷ (left ++ present gs fs)) ((x, j) ∷ pairs_of fs)
        (IsPermutation-middle left (x, j) (present gs fs))
        (IsPermutation-cons (x, j) (left ++ present gs fs) (pairs_of fs) p))
    by false e lacks p =
        rw (not_present gs x j fs e) (IsPermutation-cons (x, j) (pairs_of (others gs fs) ++ present gs fs) (pairs_of fs) p)

names_paired : (fs : Fields) → names_in (pairs_of fs) ≡ names_of fs
names_paired no_fields = refl
names_paired (json.field name j fs) = ap (λ (rest : List (List ℕ)). name ∷ rest) (names_paired fs)

-- in the order of their names they are the members as they were
pub merged : (gs : Groups) (fs : Fields) → repeats (field_names gs) ≡ false → NamesRise fs → sorted (pairs_of (others gs fs) ++ present gs fs) ≡ pairs_of fs
merged gs fs differ rise =
    let all = pairs_of (others gs fs) ++ present gs fs in
    let once : repeats (names_of fs) ≡ false = no_repeats (names_of fs) (names_of fs) (IsPermutation-refl (names_of fs)) rise in
    let moved : IsPermutation all (pairs_of fs) = parted gs fs differ once in
    let rising : Rise (names_in (pairs_of fs)) = subst (λ (names : List (List ℕ)). Rise names) (sym (names_paired fs)) rise in
    let apart : repeats (names_in all) ≡ false = no_repeats (names_in all) (names_in (pairs_of fs)) (IsPermutation-map (λ (m : List ℕ × Json). m.0) all (pairs_of fs) moved) rising in
    sym (sorted_is all (pairs_of fs) moved apart rising)

pub members_back : (fs : Fields) → fields_of (pairs_of fs) ≡ fs
members_back no_fields = refl
members_back (json.field name j fs) = ap (λ (rest : Fields). json.field name j rest) (members_back fs)
