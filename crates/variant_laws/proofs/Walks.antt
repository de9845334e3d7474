-- Items that mean their values, walked.
use Rattle.std.proofs.Common.{◌≡◌, ◌∙◌, refl, sym, subst, ℕ, suc, ◌+◌, ◌<◌, ◌==◌, nat_lt, Bool, true, false, cond, List, [], ◌∷◌, ◌++◌, length, get_or, None, Result, Ok, arith, append_assoc, zero-add, add-zero}
use Rattle.std.specs.List.{concat}
use Rattle.std.proofs.Math.Seq.{drop-append_seam}
use Rattle.std.proofs.lemmas.Bool.{le-ltb}
use Rattle.std.proofs.lemmas.Bool.Decides.{nat_tests}
use Rattle.std.proofs.lemmas.List.{length-append}
use Rattle.json_tree.specs.Json.{Json}
use Rattle.vs_bytes.specs.declared.rule.Rule.{Rule}
use Rattle.variant_meta.specs.Written.{ends_from}
use Rattle.variant_read.specs.Layout.{offset, container_size}
use Rattle.variant_read.specs.Meaning.{field_fault, entries_from, entries, items_at, with_items, container, by_basic_type, value_of}
use Rattle.variant_read.specs.Primitives.{Kind}
use Rattle.variant_write.specs.Layout.{packed}
use Rattle.variant_laws.proofs.NumberLists.{ends_len, ends_last}
use Rattle.variant_laws.proofs.Layouts.{Fits, basic_is, count_is, offset_is, fixed_is, last_is, region_is, packed_len}

-- bytes mean a value, whatever bytes follow them
abbrev pub Means : Kind → List ℕ → Json → Type 0
Means kind bytes json = (rest : List ℕ) → kind (bytes ++ rest) ≡ Ok (json, length bytes)

-- each item means its value
abbrev pub AllMean : Kind → List (List ℕ) → List Json → Type 0
AllMean kind [] [] = Unit {0}
AllMean kind [] (json ∷ jsons) = ⊥
AllMean kind (item ∷ items) [] = ⊥
AllMean kind (item ∷ items) (json ∷ jsons) = Means kind item json × AllMean kind items jsons

next : (m k : ℕ) → m + suc k ≡ suc m + k
next m k = omega arith

-- an item joins those before it
turned : (names : List (List ℕ)) (kind : Kind) (bytes front item behind : List ℕ) (k n : ℕ) (result : Result (List Json) Rule) → items_at kind ((front ++ item) ++ behind) (length (front ++ item)) (entries_from names bytes k n) ≡ result → items_at kind (front ++ (item ++ behind)) (length front + length item) (entries_from names bytes k n) ≡ result
turned names kind bytes front item behind k n result e = rw (sym (append_assoc front item behind), sym (length-append front item)) e

-- the walk over the items from item k on. `front` is the bytes of the items before it
pub walked : (names : List (List ℕ)) (kind : Kind) (bytes front : List ℕ) (k : ℕ) (items : List (List ℕ)) (jsons : List Json) → AllMean kind items jsons → ((m : ℕ) → m < length items → field_fault names bytes (m + k) ≡ None) → ((m : ℕ) → m < length items → offset bytes (m + k) ≡ get_or (length front ∷ ends_from (length front) items) m 0) → items_at kind (front ++ concat items) (length front) (entries_from names bytes k (length items)) ≡ Ok jsons
unfolding items_at entries_from
walked names kind bytes front k [] [] mean faults offsets = refl
walked names kind bytes front k [] (json ∷ jsons) mean faults offsets = absurd mean
walked names kind bytes front k (item ∷ items) [] mean faults offsets = absurd mean
walked names kind bytes front k (item ∷ items) (json ∷ jsons) mean faults offsets =
    let none : field_fault names bytes k ≡ None = subst (λ (n : ℕ). field_fault names bytes n ≡ None) (zero-add k) (faults 0 (omega arith)) in
    let first : offset bytes k ≡ length front = subst (λ (n : ℕ). offset bytes n ≡ length front) (zero-add k) (offsets 0 (omega arith)) in
    let whole = length-append front (item ++ concat items) in
    let parts = length-append item (concat items) in
    let inside : nat_lt (length (front ++ (item ++ concat items))) (length front) ≡ false = le-ltb _ _ (omega (arith, whole)) in
    let ends : nat_lt (length (front ++ (item ++ concat items))) (length front + length item) ≡ false = le-ltb _ _ (omega (arith, whole, parts)) in
    let longer = length-append front item in
    let faults_on : (m : ℕ) → m < length items → field_fault names bytes (m + suc k) ≡ None = λ m h. subst (λ (n : ℕ). field_fault names bytes n ≡ None) (sym (next m k)) (faults (suc m) (omega (arith, h))) in
    let offsets_on : (m : ℕ) → m < length items → offset bytes (m + suc k) ≡ get_or (length (front ++ item) ∷ ends_from (length (front ++ item)) items) m 0 = λ m h. rw (next m k, longer) (offsets (suc m) (omega (arith, h))) in
    let rest = walked names kind bytes (front ++ item) (suc k) items jsons mean.1 faults_on offsets_on in
    let moved = turned names kind bytes front item (concat items) (suc k) (length items) (Ok jsons) rest in
    rw (none, first, inside, drop-append_seam front (item ++ concat items), mean.0 (concat items), ends, moved) refl

-- An object or array of such items.

-- past the tests of the basic type
pub inside_is : (is : Bool) (w i : ℕ) (ids es tail : List ℕ) (kind : Kind) → value_of kind (packed is w i ids es tail) ≡ kind (packed is w i ids es tail)
unfolding value_of by_basic_type
inside_is is w i ids es tail kind =
    let len = packed_len is w i ids es tail in
    let some : (length (packed is w i ids es tail) == 0) ≡ false = grind (arith, nat_tests) in
    rw (some, basic_is is w i ids es tail) (by is)
  where
    by : (b : Bool) → by_basic_type kind (cond b 2 3) (packed is w i ids es tail) ≡ kind (packed is w i ids es tail)
    by true = refl
    by false = refl

pub container_is : (is : Bool) (w i : ℕ) (ids es values : List ℕ) (rest : List ℕ) → Fits is w i ids es → get_or (0 ∷ es) (length es) 0 ≡ length values → container_size (packed is w i ids es (values ++ rest)) ≡ length (packed is w i ids es values)
unfolding container_size
container_is is w i ids es values rest fits end =
    rw (fixed_is is w i ids es (values ++ rest) fits, last_is is w i ids es (values ++ rest) fits, end) (sym (packed_len is w i ids es values))

pub packed_means : (names : List (List ℕ)) (kind : Kind) (is : Bool) (w i : ℕ) (ids : List ℕ) (items : List (List ℕ)) (jsons : List Json) (json : Json) (rest : List ℕ) → Fits is w i ids (ends_from 0 items) → AllMean kind items jsons → ((m : ℕ) → m < length items → field_fault names (packed is w i ids (ends_from 0 items) (concat items ++ rest)) m ≡ None) → with_items names (packed is w i ids (ends_from 0 items) (concat items ++ rest)) jsons ≡ json → container names kind (packed is w i ids (ends_from 0 items) (concat items ++ rest)) ≡ Ok (json, length (packed is w i ids (ends_from 0 items) (concat items)))
unfolding container entries
packed_means names kind is w i ids items jsons json rest fits mean faults whole =
    let es = ends_from 0 items in
    let b = packed is w i ids es (concat items ++ rest) in
    let many = ends_len 0 items in
    let end : get_or (0 ∷ es) (length es) 0 ≡ length (concat items) = subst (λ (n : ℕ). get_or (0 ∷ es) n 0 ≡ length (concat items)) (sym many) (ends_last 0 items ∙ zero-add (length (concat items))) in
    let size = container_is is w i ids es (concat items) rest fits end in
    let len = packed_len is w i ids es (concat items ++ rest) in
    let short = packed_len is w i ids es (concat items) in
    let sum = length-append (concat items) rest in
    let there : nat_lt (length b) (length (packed is w i ids es (concat items))) ≡ false = le-ltb _ _ (omega (arith, len, short, sum)) in
    let walk = walked names kind b [] 0 items jsons mean (λ m h. subst (λ (n : ℕ). field_fault names b n ≡ None) (sym (add-zero m)) (faults m h)) (λ m h. rw (add-zero m) (offset_is is w i ids es (concat items ++ rest) m fits (omega (arith, h, many)))) in
    rw (size, there, region_is is w i ids es (concat items) rest fits end, count_is is w i ids es (concat items ++ rest) fits, many, walk, whole) refl
