-- What was seen, before more of it: the state of the loops over fields and items.
use Rattle.std.proofs.Common.{◌≡◌, ℕ, ◌+◌, ◌≤◌, Bool, List, [], ◌∷◌, ◌++◌, append_assoc, drop, length, map, subst, Option, None, Result, Ok, Err, refl, sym, ◌∙◌, ap, arith}
use Rattle.std.proofs.lemmas.List.{append-nil}
use Rattle.std.specs.Option.{option_map}
use Rattle.json_tree.specs.Json.{Json, Parts, parts_of, items_of}
use Rattle.json_tree.specs.View.{view}
use Rattle.json_tree.specs.declared.types.Tree.{Tree}
use Rattle.vs_bytes.specs.Outcome.{Makes}
use Rattle.vs_bytes.specs.declared.refused.Refused.{Refused}
use Rattle.vs_bytes.specs.declared.refused.Refused.TheVariants.{Fault, NoMemory}
use Rattle.vs_bytes.specs.Outcome.{◌>>=◌}
use Rattle.vs_bytes.specs.declared.rule.Rule.{Rule}
use Rattle.shred_schema.specs.Groups.{Group, Groups, no_groups, field, width, groups_nesting}
use Rattle.shred_schema.specs.Lawful.{EachField, HasEither, MayHold}
use Rattle.shred_schema.specs.Recs.{Rec, Recs, no_recs, recs}
use Rattle.shred_schema.specs.Shapes.{FieldsHaveShape}
use Rattle.shred_schema.specs.Views.{rec_of}
use Rattle.shred_schema.specs.Recs.{recs_from}
use Rattle.shred_schema.specs.declared.records.Record.{Record}
use Rattle.shred_schema.proofs.Viewed.{recs_end}
use Rattle.unshredder.specs.Merging.{member, element}
use Rattle.unshredder.proofs.Members.{items_back}
use Rattle.unshredder.proofs.NextRead.{Passes}
use Rattle.unshredder.proofs.Unread.{unread_seen}
use Rattle.unshredder.specs.Seen.{seen, fields_seen, items_seen, ahead}

-- what is left of the fields, where `done` was seen and `whole` comes of all
pub record IsLeft (mask : ℕ → Bool) (names : List (List ℕ)) (above : ℕ) (done : List (List ℕ × Json)) (most : ℕ) (whole : Result (List (List ℕ × Json)) Rule) (first : ℕ) (gs : Groups) (xs : Recs) : Type 0 where
  pub nodes : EachField HasEither MayHold gs
  pub shape : FieldsHaveShape gs xs
  pub inside : groups_nesting gs ≤ most
  pub seen : ahead done (fields_seen mask names gs first above xs) ≡ whole

abbrev shown : List (List ℕ × Json) → Result (List (List ℕ × Json)) Rule
shown members = Ok members

joined : (done : List (List ℕ × Json)) (found : List (List ℕ × Json)) (more : Result (List (List ℕ × Json)) Rule) → ahead (done ++ found) more ≡ ahead done (more >>= λ members. Ok (found ++ members))
joined done found (Ok members) = ap shown (append_assoc done found members)
joined done found (Err rule) = refl

pub turned : (mask : ℕ → Bool) (names : List (List ℕ)) (above : ℕ) (first : ℕ) (name : List ℕ) (n : Group) (gs : Groups) (x : Rec) (xs : Recs) (done : List (List ℕ × Json)) (most : ℕ) (whole : Result (List (List ℕ × Json)) Rule) (found : Option Json)
    → IsLeft mask names above done most whole first (field name n gs) (recs x xs) → seen mask names n first above x ≡ Ok found
    → IsLeft mask names above (done ++ member name found) most whole (first + width n) gs xs
turned mask names above first name n gs x xs done most whole found left e = record {
  nodes = left.nodes.1;
  shape = left.shape.1;
  inside = omega (arith, left.inside);
  seen = joined done (member name found) (fields_seen mask names gs (first + width n) above xs)
      ∙ sym (ap (λ (r : Result (Option Json) Rule). ahead done (r >>= λ o. fields_seen mask names gs (first + width n) above xs >>= λ members. Ok (member name o ++ members))) e)
      ∙ left.seen;
}

pub failed : (mask : ℕ → Bool) (names : List (List ℕ)) (above : ℕ) (first : ℕ) (name : List ℕ) (n : Group) (gs : Groups) (x : Rec) (xs : Recs) (done : List (List ℕ × Json)) (most : ℕ) (whole : Result (List (List ℕ × Json)) Rule) (rule : Rule)
    → IsLeft mask names above done most whole first (field name n gs) (recs x xs) → seen mask names n first above x ≡ Err rule → whole ≡ Err rule
failed mask names above first name n gs x xs done most whole rule left e =
    sym left.seen ∙ ap (λ (r : Result (Option Json) Rule). ahead done (r >>= λ o. fields_seen mask names gs (first + width n) above xs >>= λ members. Ok (member name o ++ members))) e

pub refused_left : {A : Type 0} → (show : A → List (List ℕ × Json)) (mask : ℕ → Bool) (names : List (List ℕ)) (above : ℕ) (first : ℕ) (name : List ℕ) (n : Group) (gs : Groups) (x : Rec) (xs : Recs) (done : List (List ℕ × Json)) (most : ℕ) (whole : Result (List (List ℕ × Json)) Rule) (refused : Refused Rule)
    → IsLeft mask names above done most whole first (field name n gs) (recs x xs) → Makes {A = Option Tree} {F = Rule} (option_map view) (Err refused) (seen mask names n first above x) → Makes {F = Rule} show (Err refused) whole
refused_left show mask names above first name n gs x xs done most whole (Fault rule) left e = failed mask names above first name n gs x xs done most whole rule left e
refused_left show mask names above first name n gs x xs done most whole NoMemory left e = tt

pub nothing_left : (mask : ℕ → Bool) (names : List (List ℕ)) (above : ℕ) (first : ℕ) (xs : Recs) (done : List (List ℕ × Json)) (most : ℕ) (whole : Result (List (List ℕ × Json)) Rule)
    → IsLeft mask names above done most whole first no_groups xs → whole ≡ Ok done
nothing_left mask names above first no_recs done most whole left = sym left.seen ∙ ap shown (append-nil done)
nothing_left mask names above first (recs x xs) done most whole left = sym left.seen ∙ ap shown (append-nil done)

-- a field of which no leaf is read is passed over
pub passes_seen : (mask : ℕ → Bool) (names : List (List ℕ)) (above : ℕ) (done : List (List ℕ × Json)) (most : ℕ) (whole : Result (List (List ℕ × Json)) Rule) → Passes mask (IsLeft mask names above done most whole)
passes_seen mask names above done most whole = record {
  many = λ k name n gs left. left.shape;
  over = λ k name n gs x xs e left. subst (λ (all : List (List ℕ × Json)). IsLeft mask names above all most whole (k + width n) gs xs) (append-nil done)
      (turned mask names above k name n gs x xs done most whole None left (unread_seen mask names n k above x e));
}

-- the same of items, where `done` was seen

abbrev pub elements_ahead : List Json → Result (List Json) Rule → Result (List Json) Rule
elements_ahead done more = more >>= λ js. Ok (done ++ js)

abbrev elements_shown : List Json → Result (List Json) Rule
elements_shown js = Ok js

next_joined : (done : List Json) (j : Json) (more : Result (List Json) Rule) → elements_ahead (done ++ j ∷ []) more ≡ elements_ahead done (more >>= λ js. Ok (j ∷ js))
next_joined done j (Ok js) = ap elements_shown (append_assoc done (j ∷ []) js)
next_joined done j (Err rule) = refl

pub element_turn : (tested : Bool) (node : Rec → Result (Option Json) Rule) (x : Rec) (xs : Recs) (done : List Json) (whole : Result (List Json) Rule) (found : Option Json) (j : Json)
    → elements_ahead done (items_seen tested node (recs x xs)) ≡ whole → node x ≡ Ok found → element tested found ≡ Ok j
    → elements_ahead (done ++ j ∷ []) (items_seen tested node xs) ≡ whole
element_turn tested node x xs done whole found j h e f =
    next_joined done j (items_seen tested node xs)
    ∙ sym (ap (λ (r : Result Json Rule). elements_ahead done (r >>= λ k. items_seen tested node xs >>= λ js. Ok (k ∷ js))) f)
    ∙ sym (ap (λ (r : Result (Option Json) Rule). elements_ahead done (r >>= λ o. element tested o >>= λ k. items_seen tested node xs >>= λ js. Ok (k ∷ js))) e)
    ∙ h

pub elements_end : (tested : Bool) (node : Rec → Result (Option Json) Rule) (done : List Json) (whole : Result (List Json) Rule) → elements_ahead done (items_seen tested node no_recs) ≡ whole → whole ≡ Ok done
elements_end tested node done whole h = sym h ∙ ap elements_shown (append-nil done)

pub items_whole : (tested asked : Bool) (node : Rec → Result (Option Json) Rule) (rs : List Record) (k : ℕ) (done : List Json) (made : Parts) → tested ≡ asked → length rs ≤ k
    → elements_ahead done (items_seen tested node (recs_from (map rec_of (drop k rs)))) ≡ items_seen tested node (recs_from (map rec_of rs)) → made ≡ parts_of done
    → items_seen asked node (recs_from (map rec_of rs)) ≡ Ok (items_of made)
items_whole tested asked node rs k done made e h a m =
    let whole : items_seen tested node (recs_from (map rec_of rs)) ≡ Ok done = elements_end tested node done (items_seen tested node (recs_from (map rec_of rs))) (subst (λ (xs : Recs). elements_ahead done (items_seen tested node xs) ≡ items_seen tested node (recs_from (map rec_of rs))) (recs_end rs k h) a) in
    let back : done ≡ items_of made = sym (items_back done) ∙ ap items_of (sym m) in
    subst (λ (b : Bool). items_seen b node (recs_from (map rec_of rs)) ≡ elements_shown (items_of made)) e (whole ∙ ap elements_shown back)
