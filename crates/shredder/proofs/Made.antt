-- Records that are made one by one.
use Rattle.std.proofs.Common.{◌≡◌, ◌∙◌, List, [], ◌∷◌, ◌++◌, append_assoc, map, refl, sym, ap}
use Rattle.std.proofs.Common.{rules, ℕ, Option, None, subst}
use Rattle.std.proofs.lemmas.List.{append-nil, map-append}
use Rattle.json_tree.specs.Json.{Json, array, object, Parts, Fields}
use Rattle.shred_schema.specs.Groups.{Group, Kind, list_of, object_of, Groups}
use Rattle.shred_schema.specs.Lawful.{AllWritten, EachIn, HasValue, IsWritten}
use Rattle.shred_schema.specs.Recs.{rec, RecPart, items, fields}
use Rattle.shred_schema.specs.Views.{part_of}
use Rattle.shred_schema.specs.declared.records.Part.{the_lemmas}
use Rattle.shred_schema.specs.declared.records.Part.TheVariants as written
use Rattle.shredder.specs.Shredded.{shredded, kind_shredded, fields_shredded, items_shredded, members_left, others}
use Rattle.shred_schema.specs.Recs.{Rec, Recs, no_recs, recs, recs_from, recs_in}
use Rattle.shred_schema.specs.Views.{rec_of}
use Rattle.shred_schema.specs.declared.records.Record.{Record}

recs_back : (xs : Recs) → recs_from (recs_in xs) ≡ xs
recs_back no_recs = refl
recs_back (recs x xs) = ap (recs x) (recs_back xs)

pub record_turn : (records : List Record) (made : Record) (x : Rec) (xs all : List Rec) → map rec_of records ++ x ∷ xs ≡ all → rec_of made ≡ x → map rec_of (records ++ made ∷ []) ++ xs ≡ all
record_turn records made x xs all h e =
    ap (λ (l : List Rec). l ++ xs) (map-append rec_of records (made ∷ []))
    ∙ append_assoc (map rec_of records) (rec_of made ∷ []) xs
    ∙ ap (λ (y : Rec). map rec_of records ++ y ∷ xs) e
    ∙ h

pub record_made : (records more : List Record) (made : Record) (x : Rec) (xs all : List Rec) → more ≡ records ++ made ∷ [] → map rec_of records ++ x ∷ xs ≡ all → rec_of made ≡ x → map rec_of more ++ xs ≡ all
record_made records more made x xs all is h e = ap (λ (l : List Record). map rec_of l ++ xs) is ∙ record_turn records made x xs all h e

pub records_whole : (records : List Record) (left : List Rec) (all : Recs) → map rec_of records ++ left ≡ recs_in all → left ≡ [] → recs_from (map rec_of records) ≡ all
records_whole records left all h e =
    let whole : map rec_of records ≡ recs_in all = sym (append-nil (map rec_of records)) ∙ ap (λ (l : List Rec). map rec_of records ++ l) (sym e) ∙ h in
    ap recs_from whole ∙ recs_back all

items_are : (xs : List Record) → part_of (written.Items xs) ≡ items (recs_from (map rec_of xs))
items_are xs = search (rules, the_lemmas)

fields_are : (xs : List Record) → part_of (written.Fields xs) ≡ fields (recs_from (map rec_of xs))
fields_are xs = search (rules, the_lemmas)

pub list_node : (t : Kind) (n : Group) → t ≡ list_of n → EachIn HasValue IsWritten t → AllWritten n
list_node t n e h = subst (EachIn HasValue IsWritten) e h

pub array_made : (code : Json → List ℕ) (t : Kind) (n : Group) (j : Json) (js : Parts) (records : List Record) → t ≡ list_of n → j ≡ array js → recs_from (map rec_of records) ≡ items_shredded (shredded code n) js
    → rec None (part_of (written.Items records)) ≡ kind_shredded code t j
array_made code t n j js records e f h =
    ap (λ (p : RecPart). rec None p) (items_are records ∙ ap items h) ∙ sym (ap (λ (k : Kind). kind_shredded code k j) e ∙ ap (kind_shredded code (list_of n)) f)

pub object_made : (code : Json → List ℕ) (t : Kind) (gs : Groups) (j : Json) (members : Fields) (value : Option (List ℕ)) (records : List Record) → t ≡ object_of gs → j ≡ object members
    → value ≡ members_left code (others gs members) → recs_from (map rec_of records) ≡ fields_shredded code gs members
    → rec value (part_of (written.Fields records)) ≡ kind_shredded code t j
object_made code t gs j members value records e f v h =
    ap (λ (o : Option (List ℕ)). rec o (part_of (written.Fields records))) v ∙ ap (rec (members_left code (others gs members))) (fields_are records ∙ ap fields h)
    ∙ sym (ap (λ (k : Kind). kind_shredded code k j) e ∙ ap (kind_shredded code (object_of gs)) f)
