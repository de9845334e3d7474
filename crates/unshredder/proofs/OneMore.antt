-- One more field: what it puts after the members, or the rule that it violates.
use Rattle.std.proofs.Common.{◌≡◌, ◌∙◌, ap, subst, refl, ℕ, ◌+◌, Bool, List, ◌++◌, Option, Result, Ok, Err}
use Rattle.json_tree.specs.Json.{Json}
use Rattle.vs_bytes.specs.Outcome.{Makes}
use Rattle.vs_bytes.specs.declared.refused.Refused.{Refused}
use Rattle.vs_bytes.specs.declared.refused.Refused.TheVariants.{Fault, NoMemory}
use Rattle.vs_bytes.specs.declared.rule.Rule.{Rule}
use Rattle.shred_schema.specs.Groups.{Group, Groups, field, width}
use Rattle.shred_schema.specs.Recs.{Rec, Recs, recs}
use Rattle.unshredder.specs.Alone.{with_member}
use Rattle.unshredder.specs.Merging.{member}
use Rattle.unshredder.specs.Seen.{seen}
use Rattle.unshredder.proofs.Ahead.{IsLeft, turned, refused_left}

pub put_turned : (mask : ℕ → Bool) (names : List (List ℕ)) (above : ℕ) (first : ℕ) (name : List ℕ) (n : Group) (gs : Groups) (x : Rec) (xs : Recs) (done all : List (List ℕ × Json)) (most : ℕ) (whole : Result (List (List ℕ × Json)) Rule)
    → IsLeft mask names above done most whole first (field name n gs) (recs x xs) → with_member done name (seen mask names n first above x) ≡ Ok all
    → IsLeft mask names above all most whole (first + width n) gs xs
put_turned mask names above first name n gs x xs done all most whole left e = by (seen mask names n first above x) refl e
  where
    by : (found : Result (Option Json) Rule) → seen mask names n first above x ≡ found → with_member done name found ≡ Ok all → IsLeft mask names above all most whole (first + width n) gs xs
    by (Ok o) is f =
        let put : done ++ member name o ≡ all = cc in
        subst (λ (ms : List (List ℕ × Json)). IsLeft mask names above ms most whole (first + width n) gs xs) put (turned mask names above first name n gs x xs done most whole o left is)
    by (Err rule) is f = absurd cc

abbrev refused_as : Rule → Result (Option Json) Rule
refused_as rule = Err rule

pub put_refused : {A B : Type 0} → (show : A → List (List ℕ × Json)) (shown : B → List (List ℕ × Json)) (mask : ℕ → Bool) (names : List (List ℕ)) (above : ℕ) (first : ℕ) (name : List ℕ) (n : Group) (gs : Groups) (x : Rec) (xs : Recs) (done : List (List ℕ × Json)) (most : ℕ) (whole : Result (List (List ℕ × Json)) Rule) (refused : Refused Rule)
    → IsLeft mask names above done most whole first (field name n gs) (recs x xs) → Makes {A = B} {F = Rule} shown (Err refused) (with_member done name (seen mask names n first above x)) → Makes {F = Rule} show (Err refused) whole
put_refused show shown mask names above first name n gs x xs done most whole NoMemory left e = tt
put_refused {A = A} show shown mask names above first name n gs x xs done most whole (Fault rule) left e = by (seen mask names n first above x) refl e
  where
    by : (found : Result (Option Json) Rule) → seen mask names n first above x ≡ found → with_member done name found ≡ Err rule → whole ≡ Err rule
    by (Ok o) is f = absurd cc
    by (Err other) is f =
        let same : other ≡ rule = cc in
        refused_left {A = A} show mask names above first name n gs x xs done most whole (Fault rule) left (is ∙ ap refused_as same)
