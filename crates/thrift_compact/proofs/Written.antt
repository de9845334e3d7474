-- What a writer's calls write.
use Rattle.std.proofs.Common.{◌≡◌, ◌∙◌, refl, sym, ap, ℕ, List, [], ◌∷◌, ◌++◌, length, unsigned_abs, ℤ, arith, append_assoc, append-nil}
use Rattle.std.proofs.lemmas.List.{length-append}
use Rattle.thrift_compact.specs.Trees.{Value, Elements, Fields, list_value, struct_value, no_elements, with_element, no_fields, with_field}
use Rattle.thrift_compact.specs.Coded.{field_bytes, list_bytes, how_many, coded, elements_coded, fields_coded}
use Rattle.thrift_compact.specs.Writers.{Rest, closing}
use Rattle.thrift_compact.specs.declared.writer.Open.{Open}

-- a field, before what follows in the outer structs
pub field_done : (old new : List ℕ) (last : ℕ) (id : ℤ) (v : Value) → ((fs : Fields) → new ++ fields_coded (unsigned_abs id) fs ≡ old ++ fields_coded last (with_field id v fs)) → (fs : Fields) (closed : List ℕ) → new ++ (elements_coded no_elements ++ (fields_coded (unsigned_abs id) fs ++ closed)) ≡ old ++ (elements_coded no_elements ++ (fields_coded last (with_field id v fs) ++ closed))
unfolding elements_coded
field_done old new last id v e fs closed =
    sym (append_assoc new (fields_coded (unsigned_abs id) fs) closed) ∙ ap (λ (xs : List ℕ). xs ++ closed) (e fs) ∙ append_assoc old (fields_coded last (with_field id v fs)) closed

-- nothing was written yet
pub fresh : (fs : Fields) → elements_coded no_elements ++ (fields_coded 0 fs ++ []) ≡ fields_coded 0 fs
unfolding elements_coded
fresh fs = append-nil (fields_coded 0 fs)

-- Lists that end alike.

pub not_none : {A : Type 0} (xs : List A) (x : A) → xs ++ x ∷ [] ≡ [] → ⊥
not_none {A = A} xs x e =
    let len : length (xs ++ x ∷ []) ≡ length {A = A} [] = ap (λ (zs : List A). length zs) e in
    let parts = length-append xs (x ∷ []) in
    omega (arith, len, parts)

pub last_same : {A : Type 0} (xs ys : List A) (x y : A) → xs ++ x ∷ [] ≡ ys ++ y ∷ [] → (xs ≡ ys) × (x ≡ y)
last_same [] [] x y e = (refl, cc)
last_same [] (b ∷ ys) x y e =
    let tail : [] ≡ ys ++ y ∷ [] = cc in
    absurd (not_none ys y (sym tail))
last_same (a ∷ xs) [] x y e =
    let tail : xs ++ x ∷ [] ≡ [] = cc in
    absurd (not_none xs x tail)
last_same (a ∷ xs) (b ∷ ys) x y e =
    let head : a ≡ b = cc in
    let tail : xs ++ x ∷ [] ≡ ys ++ y ∷ [] = cc in
    let ih = last_same xs ys x y tail in
    (rw (head, ih.0) refl, ih.1)

-- an element, before what follows
pub element_done : (old new : List ℕ) (v : Value) → new ≡ old ++ coded v → (vs : Elements) (more : List ℕ) → new ++ (elements_coded vs ++ more) ≡ old ++ (elements_coded (with_element v vs) ++ more)
unfolding elements_coded
element_done old new v e vs more = rw e (simp append_assoc)

-- the header of a list, before its elements
pub list_done : (old new : List ℕ) (last : ℕ) (id : ℤ) (kind size : ℕ) → new ≡ old ++ (field_bytes last (unsigned_abs id) 9 ++ list_bytes kind size) → (vs : Elements) (fs : Fields) (closed : List ℕ) → how_many vs ≡ size → new ++ (elements_coded vs ++ (fields_coded (unsigned_abs id) fs ++ closed)) ≡ old ++ (elements_coded no_elements ++ (fields_coded last (with_field id (list_value kind vs) fs) ++ closed))
unfolding coded elements_coded fields_coded
list_done old new last id kind size e vs fs closed m = rw (e, m) (simp append_assoc)

-- one struct more is open
one_more : (outer : List Open) (rests : List Rest) (o : Open) (r : Rest) → length rests ≡ length outer → closing (outer ++ o ∷ []) (rests ++ r ∷ []) ≡ (elements_coded r.0 ++ fields_coded o.last r.1) ++ closing outer rests
one_more [] [] o r h = sym (append-nil (elements_coded r.0 ++ fields_coded o.last r.1))
one_more [] (x ∷ rests) o r h = absurd (omega (arith, h))
one_more (p ∷ outer) [] o r h = absurd (omega (arith, h))
one_more (p ∷ outer) (x ∷ rests) o r h =
    let ih = one_more outer rests o r (omega (arith, h)) in
    rw ih (append_assoc (elements_coded r.0 ++ fields_coded o.last r.1) (closing outer rests) (elements_coded x.0 ++ fields_coded p.last x.1))

pub begin_done : (old new : List ℕ) (last : ℕ) (id : ℤ) (o : Open) (outer : List Open) → o.last ≡ unsigned_abs id → new ≡ old ++ field_bytes last (unsigned_abs id) 12 → (inner fs : Fields) (rests : List Rest) → length rests ≡ length outer → new ++ (elements_coded no_elements ++ (fields_coded 0 inner ++ closing (outer ++ o ∷ []) (rests ++ (no_elements, fs) ∷ []))) ≡ old ++ (elements_coded no_elements ++ (fields_coded last (with_field id (struct_value inner) fs) ++ closing outer rests))
unfolding coded elements_coded fields_coded
begin_done old new last id o outer own e inner fs rests h = rw (e, one_more outer rests o (no_elements, fs) h, own) (simp append_assoc)

pub item_done : (old : List ℕ) (o : Open) (outer : List Open) (inner : Fields) (vs : Elements) (fs : Fields) (rests : List Rest) → length rests ≡ length outer → old ++ (elements_coded no_elements ++ (fields_coded 0 inner ++ closing (outer ++ o ∷ []) (rests ++ (vs, fs) ∷ []))) ≡ old ++ (elements_coded (with_element (struct_value inner) vs) ++ (fields_coded o.last fs ++ closing outer rests))
unfolding coded elements_coded
item_done old o outer inner vs fs rests h = rw (one_more outer rests o (vs, fs) h) (simp append_assoc)

pub end_done : (old : List ℕ) (last : ℕ) (o : Open) (outer : List Open) (vs : Elements) (fs : Fields) (rests : List Rest) → length rests ≡ length outer → (old ++ 0 ∷ []) ++ (elements_coded vs ++ (fields_coded o.last fs ++ closing outer rests)) ≡ old ++ (elements_coded no_elements ++ (fields_coded last no_fields ++ closing (outer ++ o ∷ []) (rests ++ (vs, fs) ∷ [])))
unfolding elements_coded fields_coded
end_done old last o outer vs fs rests h = rw (one_more outer rests o (vs, fs) h) (simp append_assoc)

pub stop_done : (old : List ℕ) (last : ℕ) → old ++ 0 ∷ [] ≡ old ++ (elements_coded no_elements ++ (fields_coded last no_fields ++ closing [] []))
unfolding elements_coded fields_coded
stop_done old last = refl
