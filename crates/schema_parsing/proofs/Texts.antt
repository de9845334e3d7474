-- Whole texts: what is read is the one schema that is spelled so.
use Rattle.std.proofs.Common.{◌≡◌, ◌∙◌, refl, sym, ap, subst, ℕ, ◌+◌, ◌≤◌, List, [], ◌∷◌, Option, Some, None, length}
use Rattle.std.specs.Prelude.{nat_le}
use Rattle.std.specs.Option.{option_map}
use Rattle.std.proofs.lemmas.Bool.{leb-true, le-leb}
use Rattle.byte_parsing.proofs.Holds.{Holds, holds_none, holds_some, holds_then, holds_as, holds_if}
use Rattle.shred_schema.specs.Groups.{Group, group, free, scalar, object_of, list_of, width, nesting}
use Rattle.schema_parsing.specs.Grammar.{SchemaSyntax, schema_bytes, schema_of, IsWell, at_top, IsSchema}
use Rattle.schema_parsing.specs.Reading.{schema_at, whole, if_few, text_at}
use Rattle.schema_parsing.proofs.Complete.{complete}
use Rattle.schema_parsing.proofs.Sound.{Good, sound}

-- the top of a column nests as its schema does
pub top_nests : (schema : Group) → nesting (at_top schema) ≡ nesting schema
top_nests (group slot free) = refl
top_nests (group slot (scalar prim)) = refl
top_nests (group slot (object_of fields)) = refl
top_nests (group slot (list_of item)) = refl

-- What is read is spelled.

abbrev IsWhole : List ℕ → SchemaSyntax → Type 0
IsWhole xs w = (xs ≡ schema_bytes w []) × Good 16 w []

whole_sound : (xs : List ℕ) → Holds (IsWhole xs) (whole (schema_at 16 xs))
whole_sound xs = holds_then _ _ _ _ (sound 16 xs) (λ r p. by r.0 r.1 p)
  where
    by : (w : SchemaSyntax) (rest : List ℕ) → (xs ≡ schema_bytes w rest) × Good 16 w rest → Holds (IsWhole xs) (whole (Some (w, rest)))
    by w [] p = holds_some _ _ p
    by w (x ∷ rest) p = holds_none _

few_sound : (w : SchemaSyntax) → Holds (λ v. (w ≡ v) × (width (at_top (schema_of v)) + 1 ≤ 128)) (if_few w)
few_sound w = holds_if _ _ _ _ (λ e. holds_some _ w (refl, leb-true (width (at_top (schema_of w)) + 1) 128 e)) (λ _. holds_none _)

text_holds : (text : List ℕ) → Holds (λ w. IsSchema text (at_top (schema_of w))) (text_at text)
text_holds text =
    holds_if _ (nat_le (length text) 16384) _ _
    (λ e. holds_then _ _ _ _ (whole_sound text) (λ w p. holds_as _ _ _ (few_sound w) (λ v q. subst (λ u. IsSchema text (at_top (schema_of u))) q.0 (record {
      written = w;
      bytes = p.0;
      well = p.1.well;
      means = refl;
      short = leb-true (length text) 16384 e;
      shallow = subst (λ n. n ≤ 16) (sym (top_nests (schema_of w))) p.1.within;
      few = subst (λ u. width (at_top (schema_of u)) + 1 ≤ 128) (sym q.0) q.1;
    }))))
    (λ _. holds_none _)

pub is_schema : (text : List ℕ) (w : SchemaSyntax) → text_at text ≡ Some w → IsSchema text (at_top (schema_of w))
is_schema text w e = (text_holds text).here w e

-- What is spelled is read.

pub text_complete : (text : List ℕ) (w : SchemaSyntax) → text ≡ schema_bytes w [] → IsWell w [] → length text ≤ 16384 → nesting (at_top (schema_of w)) ≤ 16 → width (at_top (schema_of w)) + 1 ≤ 128 → text_at text ≡ Some w
text_complete text w e h short shallow few =
    let within = subst (λ n. n ≤ 16) (top_nests (schema_of w)) shallow in
    rw (le-leb (length text) 16384 short, e, complete w 16 [] h within, le-leb (width (at_top (schema_of w)) + 1) 128 few) refl

pub schema_read : (text : List ℕ) (schema : Group) (h : IsSchema text schema) → text_at text ≡ Some h.written
schema_read text schema h =
    text_complete text h.written h.bytes h.well h.short (subst (λ g. nesting g ≤ 16) h.means h.shallow) (subst (λ g. width g + 1 ≤ 128) h.means h.few)

pub schemas_are_one : (text : List ℕ) (f g : Group) → IsSchema text f → IsSchema text g → f ≡ g
schemas_are_one text f g h k =
    let one : text_at text ≡ Some h.written = schema_read text f h in
    let other : text_at text ≡ Some k.written = schema_read text g k in
    let same : h.written ≡ k.written = cc in
    h.means ∙ ap (λ w. at_top (schema_of w)) same ∙ sym k.means

pub no_schema : (text : List ℕ) → text_at text ≡ None → (schema : Group) → IsSchema text schema → ⊥
no_schema text e schema h = let some : text_at text ≡ Some h.written = schema_read text schema h in cc

-- As the parser reads them.

pub reads_schema : (text : List ℕ) (schema : Group) → option_map (λ w. at_top (schema_of w)) (text_at text) ≡ Some schema → IsSchema text schema
reads_schema text schema e = by (text_at text) refl e
  where
    by : (o : Option SchemaSyntax) → text_at text ≡ o → option_map (λ w. at_top (schema_of w)) o ≡ Some schema → IsSchema text schema
    by None g h = cc
    by (Some w) g h =
        let same : at_top (schema_of w) ≡ schema = cc in
        subst (λ x. IsSchema text x) same (is_schema text w g)

pub no_schema_read : (text : List ℕ) → option_map (λ w. at_top (schema_of w)) (text_at text) ≡ None → (schema : Group) → IsSchema text schema → ⊥
no_schema_read text e = no_schema text (by (text_at text) e)
  where
    by : (o : Option SchemaSyntax) → option_map (λ w. at_top (schema_of w)) o ≡ None → o ≡ None
    by None e = refl
    by (Some w) e = cc
