-- What a name finds among members, in any order and sorted.
use Rattle.std.proofs.Common.{◌≡◌, ◌∙◌, refl, ap, subst, ℕ, Bool, true, false, cond, List, [], ◌∷◌, ◌++◌, Option, None, Some}
use Rattle.std.specs.List.{list_any}
use Rattle.std.specs.Ordering.{nat_cmp, is_lt}
use Rattle.std.specs.Cmp.Lexicographic.{slice_cmp}
use Rattle.std.specs.Str.{bytes_eq}
use Rattle.std.proofs.lemmas.Bool.{or_parts}
use Rattle.std.proofs.lemmas.Slice.Eq.{bytes_eq-Decides}
use Rattle.json_tree.specs.Json.{Json, fields_of}
use Rattle.json_tree.specs.Order.{member_of, inserted, sorted}
use Rattle.json_tree.proofs.MembersOrder.{names_in}
use Rattle.vs_bytes.specs.Names.{repeats}

-- two tests, the one before the other or after it, where they don't both pass
either_first : (a b : Bool) (x y : Json) (rest : Option Json) → (a ≡ true → cond b (Some y) rest ≡ None) → cond b (Some y) (cond a (Some x) rest) ≡ cond a (Some x) (cond b (Some y) rest)
either_first false b x y rest h = refl
either_first true false x y rest h = refl
either_first true true x y rest h = absurd (let wrong : Some y ≡ None = h refl in cc)

later_none : (b : Bool) (y : Json) (rest : Option Json) → cond b (Some y) rest ≡ None → rest ≡ None
later_none true y rest h = absurd cc
later_none false y rest h = h

-- a member that is put before others of other names is found as if it were the first
inserted_found : (name : List ℕ) (m : List ℕ × Json) (ms : List (List ℕ × Json)) → (bytes_eq m.0 name ≡ true → member_of name (fields_of ms) ≡ None)
    → member_of name (fields_of (inserted m ms)) ≡ cond (bytes_eq m.0 name) (Some m.1) (member_of name (fields_of ms))
inserted_found name m [] apart = refl
inserted_found name m (other ∷ ms) apart =
    by (is_lt (slice_cmp nat_cmp m.0 other.0)) (inserted_found name m ms (λ e. later_none (bytes_eq other.0 name) other.1 (member_of name (fields_of ms)) (apart e)))
  where
    by : (b : Bool) → member_of name (fields_of (inserted m ms)) ≡ cond (bytes_eq m.0 name) (Some m.1) (member_of name (fields_of ms))
        → member_of name (fields_of (cond b (m ∷ (other ∷ ms)) (other ∷ inserted m ms)))
        ≡ cond (bytes_eq m.0 name) (Some m.1) (cond (bytes_eq other.0 name) (Some other.1) (member_of name (fields_of ms)))
    by true rest = refl
    by false rest = rw rest (either_first (bytes_eq m.0 name) (bytes_eq other.0 name) m.1 other.1 (member_of name (fields_of ms)) apart)

-- a name that no member has finds nothing
pub none_named : (name : List ℕ) (ms : List (List ℕ × Json)) → list_any (λ other. bytes_eq other name) (names_in ms) ≡ false → member_of name (fields_of ms) ≡ None
none_named name [] h = refl
none_named name (m ∷ ms) h =
    let parts = or_parts (bytes_eq m.0 name) (list_any (λ other. bytes_eq other name) (names_in ms)) h in
    rw parts.0 (none_named name ms parts.1)

same_none : (a b : List ℕ) (ms : List (List ℕ × Json)) → member_of a (fields_of ms) ≡ None → bytes_eq a b ≡ true → member_of b (fields_of ms) ≡ None
same_none a b ms h e = subst (λ (name : List ℕ). member_of name (fields_of ms) ≡ None) ((bytes_eq-Decides a b).0 e) h

-- a name finds among sorted members of different names what it finds among them
pub sorted_found : (name : List ℕ) (ms : List (List ℕ × Json)) → repeats (names_in ms) ≡ false → member_of name (fields_of (sorted ms)) ≡ member_of name (fields_of ms)
sorted_found name [] once = refl
sorted_found name (m ∷ ms) once =
    let parts = or_parts (list_any (λ other. bytes_eq other m.0) (names_in ms)) (repeats (names_in ms)) once in
    let rest : member_of name (fields_of (sorted ms)) ≡ member_of name (fields_of ms) = sorted_found name ms parts.1 in
    let apart : bytes_eq m.0 name ≡ true → member_of name (fields_of (sorted ms)) ≡ None = λ e. rest ∙ same_none m.0 name ms (none_named m.0 ms parts.0) e in
    inserted_found name m (sorted ms) apart ∙ ap (λ (o : Option Json). cond (bytes_eq m.0 name) (Some m.1) o) rest

-- where one of two lists has no member of that name, it finds what the other has

pub found_first : (name : List ℕ) (xs ys : List (List ℕ × Json)) → member_of name (fields_of ys) ≡ None → member_of name (fields_of (xs ++ ys)) ≡ member_of name (fields_of xs)
found_first name [] ys h = h
found_first name (x ∷ xs) ys h = ap (λ (o : Option Json). cond (bytes_eq x.0 name) (Some x.1) o) (found_first name xs ys h)

pub found_second : (name : List ℕ) (xs ys : List (List ℕ × Json)) → member_of name (fields_of xs) ≡ None → member_of name (fields_of (xs ++ ys)) ≡ member_of name (fields_of ys)
found_second name [] ys h = refl
found_second name (x ∷ xs) ys h = by (bytes_eq x.0 name) h (found_second name xs ys)
  where
    by : (b : Bool) → cond b (Some x.1) (member_of name (fields_of xs)) ≡ None → (member_of name (fields_of xs) ≡ None → member_of name (fields_of (xs ++ ys)) ≡ member_of name (fields_of ys))
        → cond b (Some x.1) (member_of name (fields_of (xs ++ ys))) ≡ member_of name (fields_of ys)
    by true none rest = absurd cc
    by false none rest = rest none
