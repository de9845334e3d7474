-- A step to a field of an object: what it finds in the members that the fields give, and in those that are left over.
use Rattle.std.proofs.Common.{◌≡◌, refl, sym, subst, ℕ, ◌+◌, Bool, true, false, cond, List, [], ◌++◌, Option, None, Some, Result, Ok}
use Rattle.std.specs.List.{list_any}
use Rattle.std.specs.Str.{bytes_eq}
use Rattle.std.proofs.lemmas.Bool.{or_parts}
use Rattle.std.proofs.lemmas.Slice.Eq.{bytes_eq-Decides}
use Rattle.json_tree.specs.Json.{Json, fields_of}
use Rattle.json_tree.specs.Order.{member_of}
use Rattle.vs_bytes.specs.Names.{repeats}
use Rattle.vs_bytes.specs.Outcome.{◌>>=◌}
use Rattle.vs_bytes.specs.declared.rule.Rule.{Rule}
use Rattle.query_tree.specs.declared.step.Step.{Step}
use Rattle.path_query.specs.Matches.{at}
use Rattle.shred_schema.specs.Groups.{Group, Groups, no_groups, field, field_names, width}
use Rattle.shred_schema.specs.Lawful.{AreNodes, EachField, HasEither, MayHold}
use Rattle.shred_schema.specs.Ranges.{every}
use Rattle.shred_schema.specs.Recs.{Rec, Recs, no_recs, recs}
use Rattle.unshredder.specs.Merging.{member}
use Rattle.unshredder.specs.Seen.{seen, fields_seen}
use Rattle.unshredder.proofs.Apart.{AreMembers, seen_are}
use Rattle.chunk_pruning.specs.Needs.{need, in_field}
use Rattle.pruning_laws.proofs.Chains.{steps_of}

-- The members that fields give.

abbrev pub is_field : List ℕ → Groups → Bool
is_field name gs = list_any (λ other. bytes_eq other name) (field_names gs)

-- fields that are seen, the first and the others
record AreSeen (mask : ℕ → Bool) (names : List (List ℕ)) (n : Group) (gs : Groups) (k above : ℕ) (x : Rec) (xs : Recs) (name : List ℕ) (ms : List (List ℕ × Json)) : Type 0 where
  first : Option Json
  more : List (List ℕ × Json)
  of_first : seen mask names n k above x ≡ Ok first
  of_more : fields_seen mask names gs (k + width n) above xs ≡ Ok more
  are : member name first ++ more ≡ ms

fields_parts : (mask : ℕ → Bool) (names : List (List ℕ)) (name : List ℕ) (n : Group) (gs : Groups) (k above : ℕ) (x : Rec) (xs : Recs) (ms : List (List ℕ × Json))
    → fields_seen mask names (field name n gs) k above (recs x xs) ≡ Ok ms → AreSeen mask names n gs k above x xs name ms
fields_parts mask names name n gs k above x xs ms h =
    let rest = fields_seen mask names gs (k + width n) above xs in
    let one = steps_of (seen mask names n k above x) (λ found. rest >>= λ members. Ok (member name found ++ members)) ms h in
    let two = steps_of rest (λ members. Ok (member name one.value ++ members)) ms one.rest in
    let are : member name one.value ++ two.value ≡ ms = let e = two.rest in cc in
    record { first = one.value; more = two.value; of_first = one.is; of_more = two.is; are = are }

-- a name that no field has finds no member that the fields give
pub not_field : (name : List ℕ) (gs : Groups) (ms : List (List ℕ × Json)) → is_field name gs ≡ false → AreMembers gs ms → member_of name (fields_of ms) ≡ None
not_field name no_groups ms h are = rw are refl
not_field name (field other n gs) ms h are =
    let parts = or_parts (bytes_eq other name) (is_field name gs) h in
    subst (λ (all : List (List ℕ × Json)). member_of name (fields_of all) ≡ None) (sym are.1.1.0) (by are.0 (not_field name gs are.1.0 parts.1 are.1.1.1))
  where
    by : (o : Option Json) → member_of name (fields_of are.1.0) ≡ None → member_of name (fields_of (member other o ++ are.1.0)) ≡ None
    by None rest = rest
    by (Some j) rest = let parts = or_parts (bytes_eq other name) (is_field name gs) h in rw parts.0 rest

-- the first member, found by its name or passed over
own_found : (name : List ℕ) (other : List ℕ) (o : Option Json) (more : List (List ℕ × Json)) → bytes_eq other name ≡ true → member_of name (fields_of more) ≡ None
    → member_of name (fields_of (member other o ++ more)) ≡ o
own_found name other None more e none = none
own_found name other (Some j) more e none = rw e refl

passed_over : (name : List ℕ) (other : List ℕ) (o : Option Json) (more : List (List ℕ × Json)) → bytes_eq other name ≡ false
    → member_of name (fields_of (member other o ++ more)) ≡ member_of name (fields_of more)
passed_over name other None more e = refl
passed_over name other (Some j) more e = rw e refl

not_later : (a b : List ℕ) (gs : Groups) → bytes_eq a b ≡ true → is_field a gs ≡ false → is_field b gs ≡ false
not_later a b gs e h = subst (λ (name : List ℕ). is_field name gs ≡ false) ((bytes_eq-Decides a b).0 e) h

module _ (mask : ℕ → Bool) (names : List (List ℕ)) (steps : List Step) where
  -- a path finds the same of a node under the mask that reads what it needs
  abbrev pub FindsSame : Type 0
  FindsSame = (n : Group) (k above : ℕ) (x : Rec) (less o : Option Json) → AreNodes n → ((j : ℕ) → need steps n k j ≡ true → mask j ≡ true)
      → seen mask names n k above x ≡ Ok less → seen every names n k above x ≡ Ok o → at steps less ≡ at steps o

  -- the mask reads what is needed of the field of that name, and `other` where there is none
  abbrev NeedsField : List ℕ → (ℕ → Bool) → Groups → ℕ → Type 0
  NeedsField name other gs k = (j : ℕ) → in_field (λ n m. need steps n m j) name (other j) gs k ≡ true → mask j ≡ true

  none_given : (name : List ℕ) (less ms : List (List ℕ × Json)) → ◌≡◌ {A = Result (List (List ℕ × Json)) Rule} (Ok []) (Ok less)
      → ◌≡◌ {A = Result (List (List ℕ × Json)) Rule} (Ok []) (Ok ms) → at steps (member_of name (fields_of less)) ≡ at steps (member_of name (fields_of ms))
  none_given name less ms f g =
      let left : [] ≡ less = cc in
      let right : [] ≡ ms = cc in
      rw (sym left, sym right) refl

  -- and of the member of a name that a field gives
  pub fields_keep : FindsSame → (name : List ℕ) (gs : Groups) (k above : ℕ) (xs : Recs) (less ms : List (List ℕ × Json)) → EachField HasEither MayHold gs → repeats (field_names gs) ≡ false
      → (other : ℕ → Bool) → NeedsField name other gs k
      → fields_seen mask names gs k above xs ≡ Ok less → fields_seen every names gs k above xs ≡ Ok ms → at steps (member_of name (fields_of less)) ≡ at steps (member_of name (fields_of ms))
  fields_keep keep name no_groups k above xs less ms nodes differ other needs f g = none_given name less ms f g
  fields_keep keep name (field own n gs) k above no_recs less ms nodes differ other needs f g = none_given name less ms f g
  fields_keep keep name (field own n gs) k above (recs x xs) less ms nodes differ other needs f g =
      let few = fields_parts mask names own n gs k above x xs less f in
      let all = fields_parts every names own n gs k above x xs ms g in
      let once = or_parts (is_field own gs) (repeats (field_names gs)) differ in
      by few all once.0 (bytes_eq own name) refl needs (λ more. fields_keep keep name gs (k + width n) above xs few.more all.more nodes.1 once.1 other more few.of_more all.of_more)
    where
      by : (few : AreSeen mask names n gs k above x xs own less) (all : AreSeen every names n gs k above x xs own ms) → is_field own gs ≡ false → (b : Bool) → bytes_eq own name ≡ b
          → ((j : ℕ) → cond b (need steps n k j) (in_field (λ n m. need steps n m j) name (other j) gs (k + width n)) ≡ true → mask j ≡ true)
          → (NeedsField name other gs (k + width n) → at steps (member_of name (fields_of few.more)) ≡ at steps (member_of name (fields_of all.more)))
          → at steps (member_of name (fields_of less)) ≡ at steps (member_of name (fields_of ms))
      by few all once true e here rest =
          let none : is_field name gs ≡ false = not_later own name gs e once in
          let left = own_found name own few.first few.more e (not_field name gs few.more none (seen_are mask names gs (k + width n) above xs few.more few.of_more)) in
          let right = own_found name own all.first all.more e (not_field name gs all.more none (seen_are every names gs (k + width n) above xs all.more all.of_more)) in
          rw (sym few.are, sym all.are, left, right) (keep n k above x few.first all.first nodes.0 here few.of_first all.of_first)
      by few all once false e there rest =
          let left = passed_over name own few.first few.more e in
          let right = passed_over name own all.first all.more e in
          rw (sym few.are, sym all.are, left, right) (rest there)
