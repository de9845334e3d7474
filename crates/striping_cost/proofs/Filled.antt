-- Records that are filled field by field and item by item, and columns of schemas.
use Rattle.std.proofs.Common.{◌≡◌, ◌∙◌, refl, sym, ap, subst, ℕ, zero, suc, ◌+◌, ◌<◌, ◌≤◌, List, [], ◌∷◌, ◌++◌, length, map, drop, get_or, true, pos, rules, arith}
use Rattle.std.specs.List.{AllByRecursion}
use Rattle.std.proofs.lemmas.List.{map-append}
use Rattle.exact_num.specs.Unscaled.{half}
use Rattle.vs_bytes.specs.declared.leaf_columns.Cell.TheVariants as leaf_cell
use Rattle.vs_bytes.specs.declared.leaf_columns.PrimKind.{PrimKind}
use Rattle.vs_bytes.specs.declared.leaf_columns.PrimKind.TheVariants as prim
use Rattle.shred_schema.specs.Cells.{is_of_prim}
use Rattle.shred_schema.specs.declared.records.Part.{the_lemmas}
use Rattle.shred_schema.specs.declared.records.Part.TheVariants as part
use Rattle.shred_schema.specs.Groups.{Group, Groups, scalar, groups_from, groups_height, height}
use Rattle.shred_schema.specs.Lawful.{IsWellFormed}
use Rattle.shred_schema.specs.Recs.{Rec, RecPart, cell, Recs, no_recs, recs, recs_from, EachRec}
use Rattle.shred_schema.specs.Shapes.{IsOf, PartIsOf, FieldsAreOf}
use Rattle.shred_schema.specs.Views.{group_of, named, rec_of, part_of}
use Rattle.shred_schema.specs.declared.nodes.Node.{Node}
use Rattle.shred_schema.specs.declared.records.Record.{Record}
use Rattle.shred_schema.proofs.NodeFacts.{written_are_nodes}
use Rattle.shred_schema.proofs.Viewed.{fields_at, fields_end}
use Rattle.schema_parsing.specs.Grammar.{IsSchema}
use Rattle.schema_parsing.proofs.WrittenNodes.{schema_written}
use Rattle.record_taking.proofs.PartsTaken.{before, before_more, before_none}

-- the records that are made, with any for the fields that are left, are of all fields
abbrev pub Filling : List (List ℕ × Node) → Groups → List Record → Type 0
Filling left all made = (rest : Recs) → FieldsAreOf (groups_from (map named left)) rest → FieldsAreOf all (before (map rec_of made) rest)

pub field_filled : (fs : List (List ℕ × Node)) (i : ℕ) (f : List ℕ × Node) (all : Groups) (xs ys : List Record) (x : Record) → i < length fs → ys ≡ xs ++ x ∷ [] → IsOf (group_of (get_or fs i f).1) (rec_of x) → Filling (drop i fs) all xs → Filling (drop (i + 1) fs) all ys
field_filled fs i f all xs ys x h made of filling rest are =
    let here : FieldsAreOf (groups_from (map named (drop i fs))) (recs (rec_of x) rest) = subst (λ (gs : Groups). FieldsAreOf gs (recs (rec_of x) rest)) (sym (fields_at fs i f f h)) (of, are) in
    let same : before (map rec_of ys) rest ≡ before (map rec_of xs) (recs (rec_of x) rest) = ap (λ zs. before (map rec_of zs) rest) made ∙ (ap (λ zs. before zs rest) (map-append rec_of xs (x ∷ [])) ∙ before_more (map rec_of xs) (rec_of x) rest) in
    subst (λ (rs : Recs). FieldsAreOf all rs) (sym same) (filling (recs (rec_of x) rest) here)

pub fields_filled : (fs : List (List ℕ × Node)) (i : ℕ) (all : Groups) (xs : List Record) → length fs ≤ i → Filling (drop i fs) all xs → FieldsAreOf all (recs_from (map rec_of xs))
fields_filled fs i all xs h filling =
    subst (λ (rs : Recs). FieldsAreOf all rs) (before_none (map rec_of xs))
    (filling no_recs (subst (λ (gs : Groups). FieldsAreOf gs no_recs) (sym (fields_end fs i h)) tt))

pub field_low : (fs : List (List ℕ × Node)) (i : ℕ) (f : List ℕ × Node) → i < length fs → height (group_of (get_or fs i f).1) ≤ groups_height (groups_from (map named fs))
field_low [] i f h = absurd (omega arith)
field_low (x ∷ fs) zero f h = omega arith
field_low (x ∷ fs) (suc i) f h = omega (arith, field_low fs i f (omega arith))

each_more : (P : Rec → Type 0) (xs : List Rec) (x : Rec) → EachRec P (recs_from xs) → P x → EachRec P (recs_from (xs ++ x ∷ []))
each_more P [] x are is = (is, tt)
each_more P (y ∷ ys) x are is = (are.0, each_more P ys x are.1 is)

pub item_filled : (n : Group) (xs ys : List Record) (x : Record) → ys ≡ xs ++ x ∷ [] → EachRec (IsOf n) (recs_from (map rec_of xs)) → IsOf n (rec_of x) → EachRec (IsOf n) (recs_from (map rec_of ys))
item_filled n xs ys x made are is =
    subst (λ (zs : List Rec). EachRec (IsOf n) (recs_from zs)) (sym (ap (map rec_of) made ∙ map-append rec_of xs (x ∷ []))) (each_more (IsOf n) (map rec_of xs) (rec_of x) are is)

-- rows
pub row_more : {A B : Type 0} (P : B → Type 0) (view : A → B) (xs ys : List A) (x : A) → ys ≡ xs ++ x ∷ [] → AllByRecursion P (map view xs) → P (view x) → AllByRecursion P (map view ys)
row_more {A = A} {B = B} P view xs ys x made are is = subst (λ (zs : List B). AllByRecursion P zs) (sym (ap (map view) made)) (by xs are)
  where
    by : (zs : List A) → AllByRecursion P (map view zs) → AllByRecursion P (map view (zs ++ x ∷ []))
    by [] a = (is, tt)
    by (z ∷ zs) a = (a.0, by zs a.1)

-- the column of a schema
pub schema_column : (text : List ℕ) (n : Group) → IsSchema text n → IsWellFormed n
schema_column text n s = record { nodes = written_are_nodes n (schema_written text n s); deep = omega (arith, s.shallow); few = omega (arith, s.few) }

-- an integer that is a cell
pub number_is : part_of (part.Cell (leaf_cell.Num (pos 5))) ≡ cell (leaf_cell.Num (pos 5))
number_is = search (rules, the_lemmas)

pub number_fits : is_of_prim prim.Int64 (leaf_cell.Num (pos 5)) ≡ true
unfolding half
number_fits = refl

pub number_filled : (q : PrimKind) → q ≡ prim.Int64 → PartIsOf (scalar q) (part_of (part.Cell (leaf_cell.Num (pos 5))))
number_filled q is = subst (λ (p : PrimKind). PartIsOf (scalar p) (part_of (part.Cell (leaf_cell.Num (pos 5))))) (sym is) (subst (λ (p : RecPart). PartIsOf (scalar prim.Int64) p) (sym number_is) number_fits)
