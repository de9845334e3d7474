-- What items and members show, read by place.
use Rattle.std.proofs.Common.{◌≡◌, ◌∙◌, ℕ, suc, zero, ◌+◌, ◌<◌, drop, subst, true, ◌++◌, List, [], ◌∷◌, length, get_or, map, refl, sym, ap, arith, Some}
use Rattle.std.specs.Prelude.{slice_get}
use Rattle.std.proofs.lemmas.List.{map-append}
use Rattle.json_tree.specs.Json.{Json, Parts, Fields, parts_of, fields_of, items_of, names_of, values_of}
use Rattle.std.specs.Str.{is_utf8}
use Rattle.json_tree.specs.Valid.{IsValid, AreValid, HoldValid}
use Rattle.json_tree.specs.View.{view, seen}
use Rattle.json_tree.specs.declared.types.Tree.{Tree}

pub item_at : (ts : List Tree) (i : ℕ) (t : Tree) → i < length ts → t ≡ get_or ts i t → slice_get (items_of (parts_of (map view ts))) i ≡ Some (view t)
item_at [] i t h e = absurd (omega arith)
item_at (u ∷ ts) zero t h e = ap (λ x. Some (view x)) (sym e)
item_at (u ∷ ts) (suc i) t h e = item_at ts i t (omega arith) e

pub member_name_at : (ps : List (List ℕ × Tree)) (i : ℕ) (p : List ℕ × Tree) → i < length ps → p ≡ get_or ps i p → slice_get (names_of (fields_of (map seen ps))) i ≡ Some p.0
member_name_at [] i p h e = absurd (omega arith)
member_name_at (q ∷ ps) zero p h e = ap (λ (x : List ℕ × Tree). Some x.0) (sym e)
member_name_at (q ∷ ps) (suc i) p h e = member_name_at ps i p (omega arith) e

pub member_value_at : (ps : List (List ℕ × Tree)) (i : ℕ) (p : List ℕ × Tree) → i < length ps → p ≡ get_or ps i p → slice_get (values_of (fields_of (map seen ps))) i ≡ Some (view p.1)
member_value_at [] i p h e = absurd (omega arith)
member_value_at (q ∷ ps) zero p h e = ap (λ (x : List ℕ × Tree). Some (view x.1)) (sym e)
member_value_at (q ∷ ps) (suc i) p h e = member_value_at ps i p (omega arith) e

pub item_count : (ts : List Tree) → length (items_of (parts_of (map view ts))) ≡ length ts
item_count [] = refl
item_count (t ∷ ts) = ap suc (item_count ts)

pub name_count : (ps : List (List ℕ × Tree)) → length (names_of (fields_of (map seen ps))) ≡ length ps
name_count [] = refl
name_count (p ∷ ps) = ap suc (name_count ps)

pub items_listed : (js : List Json) → items_of (parts_of js) ≡ js
items_listed [] = refl
items_listed (j ∷ js) = ap (λ rest. j ∷ rest) (items_listed js)

-- items and members whose values are seen
pub items_counted : (ps : Parts) (ts : List Tree) → ps ≡ parts_of (map view ts) → length ts ≡ length (items_of ps)
items_counted ps ts e = sym (item_count ts) ∙ ap (λ qs. length (items_of qs)) (sym e)

pub members_counted : (fs : Fields) (ms : List (List ℕ × Tree)) → fs ≡ fields_of (map seen ms) → length ms ≡ length (names_of fs)
members_counted fs ms e = sym (name_count ms) ∙ ap (λ gs. length (names_of gs)) (sym e)

pub item_read : (ps : Parts) (ts : List Tree) (i : ℕ) (t : Tree) → ps ≡ parts_of (map view ts) → i < length (items_of ps) → t ≡ get_or ts i t → slice_get (items_of ps) i ≡ Some (view t)
item_read ps ts i t e h f =
    let count = items_counted ps ts e in
    rw e (item_at ts i t (omega arith) f)

pub name_read : (fs : Fields) (ms : List (List ℕ × Tree)) (i : ℕ) (m : List ℕ × Tree) → fs ≡ fields_of (map seen ms) → i < length (names_of fs) → m ≡ get_or ms i m → slice_get (names_of fs) i ≡ Some (get_or ms i m).0
name_read fs ms i m e h f =
    let count = members_counted fs ms e in
    rw e (member_name_at ms i m (omega arith) f) ∙ ap (λ (x : List ℕ × Tree). Some x.0) f

pub value_read : (fs : Fields) (ms : List (List ℕ × Tree)) (i : ℕ) (m : List ℕ × Tree) → fs ≡ fields_of (map seen ms) → i < length (names_of fs) → m ≡ get_or ms i m → slice_get (values_of fs) i ≡ Some (view (get_or ms i m).1)
value_read fs ms i m e h f =
    let count = members_counted fs ms e in
    rw e (member_value_at ms i m (omega arith) f) ∙ ap (λ (x : List ℕ × Tree). Some (view x.1)) f

pub item_pushed : (ts : List Tree) (t : Tree) → items_of (parts_of (map view (ts ++ t ∷ []))) ≡ items_of (parts_of (map view ts)) ++ view t ∷ []
item_pushed ts t = rw (items_listed (map view (ts ++ t ∷ [])), items_listed (map view ts)) (map-append view ts (t ∷ []))

pub valid_pushed : (ts : List Tree) (t : Tree) → AreValid (parts_of (map view ts)) → IsValid (view t) → AreValid (parts_of (map view (ts ++ t ∷ [])))
valid_pushed [] t h v = (v, tt)
valid_pushed (u ∷ ts) t h v = (h.0, valid_pushed ts t h.1 v)

pub member_valid : (ps : List (List ℕ × Tree)) (i : ℕ) (p : List ℕ × Tree) → i < length ps → p ≡ get_or ps i p → is_utf8 p.0 ≡ true → IsValid (view p.1) → HoldValid (fields_of (map seen (drop (i + 1) ps))) → HoldValid (fields_of (map seen (drop i ps)))
member_valid [] i p h e u v rest = absurd (omega arith)
member_valid (q ∷ ps) zero p h e u v rest = subst (λ (m : List ℕ × Tree). HoldValid (fields_of (seen m ∷ map seen ps))) e (u, v, rest)
member_valid (q ∷ ps) (suc i) p h e u v rest =
    let place : suc i + 1 ≡ suc (i + 1) = omega arith in
    member_valid ps i p (omega arith) e u v (subst (λ n. HoldValid (fields_of (map seen (drop n (q ∷ ps))))) place rest)
