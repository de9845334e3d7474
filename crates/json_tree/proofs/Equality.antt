-- When two trees have the same value.
use Rattle.std.proofs.Common.{◌≡◌, ◌∙◌, ◌↔◌, ℕ, zero, suc, ◌<◌, Bool, IsTrue, List, [], ◌∷◌, length, get_or, map, refl, sym, ap, arith}
use Rattle.json_tree.specs.Json.{Json, array, object, Parts, Fields, parts_of, fields_of}
use Rattle.json_tree.specs.View.{view, seen}
use Rattle.json_tree.specs.declared.types.Tree.{Tree}
use Rattle.json_tree.specs.declared.types.Tree.TheVariants.{Array, Object}

parts_same : (xs ys : List Json) → parts_of xs ≡ parts_of ys → xs ≡ ys
parts_same [] [] e = refl
parts_same [] (y ∷ ys) e = absurd (cc)
parts_same (x ∷ xs) [] e = absurd (cc)
parts_same (x ∷ xs) (y ∷ ys) e =
    let first : x ≡ y = cc in
    let rest : parts_of xs ≡ parts_of ys = cc in
    let same : xs ≡ ys = parts_same xs ys rest in
    λ i. first i ∷ same i

fields_same : (xs ys : List (List ℕ × Json)) → fields_of xs ≡ fields_of ys → xs ≡ ys
fields_same [] [] e = refl
fields_same [] (y ∷ ys) e = absurd (cc)
fields_same (x ∷ xs) [] e = absurd (cc)
fields_same (x ∷ xs) (y ∷ ys) e =
    let name : x.0 ≡ y.0 = cc in
    let value : x.1 ≡ y.1 = cc in
    let rest : fields_of xs ≡ fields_of ys = cc in
    let same : xs ≡ ys = fields_same xs ys rest in
    λ i. (name i, value i) ∷ same i

pub array_same : (a b : Tree) (x y : Parts) (xs ys : List Tree) (r : Bool) → a ≡ Array x → b ≡ Array y → x ≡ parts_of (map view xs) → y ≡ parts_of (map view ys) → (IsTrue r ↔ (map view xs ≡ map view ys)) → (IsTrue r ↔ (view a ≡ view b))
array_same a b x y xs ys r p q e f h =
    let left : view a ≡ array (parts_of (map view xs)) = ap view p ∙ ap array e in
    let right : view b ≡ array (parts_of (map view ys)) = ap view q ∙ ap array f in
    (λ t. left ∙ ap (λ js. array (parts_of js)) (h.0 t) ∙ sym right, λ v. h.1 (parts_same (map view xs) (map view ys) (inner (parts_of (map view xs)) (parts_of (map view ys)) (sym left ∙ v ∙ right))))
  where
    inner : (ps qs : Parts) → array ps ≡ array qs → ps ≡ qs
    inner ps qs e = cc

pub object_same : (a b : Tree) (x y : Fields) (xs ys : List (List ℕ × Tree)) (r : Bool) → a ≡ Object x → b ≡ Object y → x ≡ fields_of (map seen xs) → y ≡ fields_of (map seen ys) → (IsTrue r ↔ (map seen xs ≡ map seen ys)) → (IsTrue r ↔ (view a ≡ view b))
object_same a b x y xs ys r p q e f h =
    let left : view a ≡ object (fields_of (map seen xs)) = ap view p ∙ ap object e in
    let right : view b ≡ object (fields_of (map seen ys)) = ap view q ∙ ap object f in
    (λ t. left ∙ ap (λ ms. object (fields_of ms)) (h.0 t) ∙ sym right, λ v. h.1 (fields_same (map seen xs) (map seen ys) (inner (fields_of (map seen xs)) (fields_of (map seen ys)) (sym left ∙ v ∙ right))))
  where
    inner : (fs gs : Fields) → object fs ≡ object gs → fs ≡ gs
    inner fs gs e = cc

-- what lists of the same values hold at a place
item_at_same : (xs ys : List Tree) (i : ℕ) (d e : Tree) → i < length xs → i < length ys → map view xs ≡ map view ys → view (get_or xs i d) ≡ view (get_or ys i e)
item_at_same [] ys i d e h k same = absurd (omega arith)
item_at_same (x ∷ xs) [] i d e h k same = absurd (omega arith)
item_at_same (x ∷ xs) (y ∷ ys) zero d e h k same = cc
item_at_same (x ∷ xs) (y ∷ ys) (suc i) d e h k same = let rest : map view xs ≡ map view ys = cc in item_at_same xs ys i d e (omega arith) (omega arith) rest

pub item_same : (xs ys : List Tree) (i : ℕ) (x y : Tree) → i < length xs → i < length ys → x ≡ get_or xs i x → y ≡ get_or ys i y → map view xs ≡ map view ys → view x ≡ view y
item_same xs ys i x y h k e f same = ap view e ∙ item_at_same xs ys i x y h k same ∙ sym (ap view f)

member_at_same : (xs ys : List (List ℕ × Tree)) (i : ℕ) (d e : List ℕ × Tree) → i < length xs → i < length ys → map seen xs ≡ map seen ys → seen (get_or xs i d) ≡ seen (get_or ys i e)
member_at_same [] ys i d e h k same = absurd (omega arith)
member_at_same (x ∷ xs) [] i d e h k same = absurd (omega arith)
member_at_same (x ∷ xs) (y ∷ ys) zero d e h k same = cc
member_at_same (x ∷ xs) (y ∷ ys) (suc i) d e h k same = let rest : map seen xs ≡ map seen ys = cc in member_at_same xs ys i d e (omega arith) (omega arith) rest

pub member_same : (xs ys : List (List ℕ × Tree)) (i : ℕ) (d e p q : List ℕ × Tree) → i < length xs → i < length ys → map seen xs ≡ map seen ys → ((get_or xs i d).0 ≡ (get_or ys i e).0) × (view (get_or xs i p).1 ≡ view (get_or ys i q).1)
member_same xs ys i d e p q h k same = (ap (λ (m : List ℕ × Json). m.0) (member_at_same xs ys i d e h k same), ap (λ (m : List ℕ × Json). m.1) (member_at_same xs ys i p q h k same))
