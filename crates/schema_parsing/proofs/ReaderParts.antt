-- Schemas, and the fields of one, as the parser reads them.
use Rattle.std.proofs.Common.{◌≡◌, ◌∙◌, refl, sym, ap, ℕ, zero, suc, List, [], ◌∷◌, ◌++◌, Bool, true, false, cond, Option, Some, None, append_assoc, append-nil, length}
use Rattle.std.specs.Option.{option_map}
use Rattle.vs_bytes.specs.Names.{repeats}
use Rattle.byte_parsing.specs.Lists.{more_at}
use Rattle.byte_parsing.specs.Parse.{Parse, read_as, front, past}
use Rattle.byte_parsing.specs.Words.{is_space, gap_of, past_gap}
use Rattle.shred_schema.specs.Groups.{Group, group, object_of, groups_from}
use Rattle.shred_schema.specs.declared.nodes.Slot.TheVariants.{Optional}
use Rattle.schema_parsing.specs.Grammar.{SchemaSyntax, braced, FieldSyntax, FieldsSyntax, first_field, MoreFieldsSyntax, end_fields, next_field, schema_of, field_in, fields_in, more_in, names_of}
use Rattle.schema_parsing.specs.Reading.{field_at, fields_at, word_at, opened, schema_at}
use Rattle.schema_parsing.specs.Parts.{braced_within, bracketed_within}

pub schema_is : (room : ℕ) (xs : List ℕ) → schema_at room xs ≡ opened (λ ys. braced_within room ys) (past 123 xs) (opened (λ ys. bracketed_within room ys) (past 91 xs) (word_at xs))
unfolding schema_at
schema_is zero xs = refl
schema_is (suc room) xs = refl

-- Fields, of which some were read, and at most so many more are ahead.

abbrev more_fields : Parse SchemaSyntax → ℕ → Parse MoreFieldsSyntax
more_fields schema count xs = more_at is_space 125 end_fields next_field (λ ys. field_at schema ys) count xs

-- fields, and those after them
abbrev put_before : List (List ℕ × Group) → Option (MoreFieldsSyntax × List ℕ) → Option (List (List ℕ × Group) × List ℕ)
put_before done read = option_map (λ r. (done ++ more_in r.0, r.1)) read

-- what is read of all fields
unfoldable pub ahead : Parse SchemaSyntax → List (List ℕ × Group) → ℕ → List ℕ → Option (List (List ℕ × Group) × List ℕ)
ahead schema done count rest = put_before done (more_fields schema count rest)

-- a part that was read, by its value
record WasRead {A B : Type 0} (view : A → B) (o : Option (A × List ℕ)) (value : B) (after : List ℕ) : Type 0 where
  part : A
  is_read : o ≡ Some (part, after)
  stands : view part ≡ value

was_read : {A B : Type 0} (view : A → B) (o : Option (A × List ℕ)) (value : B) (after : List ℕ) → read_as view o ≡ Some (value, after) → WasRead view o value after
was_read view None value after e = cc
was_read {A = A} {B = B} view (Some r) value after e =
    let same : ◌≡◌ {A = B × List ℕ} (view r.0, r.1) (value, after) = cc in
    record { part = r.0; is_read = ap (λ (xs : List ℕ). Some (r.0, xs)) (ap (λ p. p.1) same); stands = ap (λ p. p.0) same }

unread : {A B : Type 0} (view : A → B) (o : Option (A × List ℕ)) → read_as view o ≡ None → o ≡ None
unread view None e = refl
unread view (Some r) e = cc

pub starts : (schema : Parse SchemaSyntax) (text : List ℕ) (f : List ℕ × Group) (after rest : List ℕ) (done : List (List ℕ × Group)) (count : ℕ) → read_as field_in (field_at schema text) ≡ Some (f, after) → rest ≡ past_gap after → done ≡ f ∷ [] → count ≡ length rest → read_as fields_in (fields_at schema text) ≡ ahead schema done count rest
unfolding ahead
starts schema text f after rest done count e g d n =
    let r = was_read field_in (field_at schema text) f after e in
    rw (d, n, r.is_read, ← g) (by r.part r.stands (more_fields schema (length rest) rest))
  where
    by : (w : FieldSyntax) → field_in w ≡ f → (o : Option (MoreFieldsSyntax × List ℕ)) → read_as fields_in (option_map {U = FieldsSyntax × List ℕ} (λ i. (first_field i.0 i.1 i.2, i.3)) (option_map {U = FieldSyntax × List ℕ × MoreFieldsSyntax × List ℕ} (λ m. (w, front is_space after, m.0, m.1)) o)) ≡ put_before (f ∷ []) o
    by w stands None = refl
    by w stands (Some m) = ap (λ v. Some (v ∷ more_in m.0, m.1)) stands

pub no_start : (schema : Parse SchemaSyntax) (text : List ℕ) → read_as field_in (field_at schema text) ≡ None → read_as fields_in (fields_at schema text) ≡ None
no_start schema text e = rw (unread field_in (field_at schema text) e) refl

pub ends : (schema : Parse SchemaSyntax) (done : List (List ℕ × Group)) (count less : ℕ) (rest end : List ℕ) (all : Option (List (List ℕ × Group) × List ℕ)) → all ≡ ahead schema done count rest → count ≡ suc less → past 125 rest ≡ Some end → all ≡ Some (done, end)
unfolding ahead
ends schema done count less rest end all a n e = a ∙ rw (n, e) (ap (λ xs. Some (xs, end)) (append-nil done))

pub refuses : (schema : Parse SchemaSyntax) (done : List (List ℕ × Group)) (count less : ℕ) (rest : List ℕ) (all : Option (List (List ℕ × Group) × List ℕ)) → all ≡ ahead schema done count rest → count ≡ suc less → past 125 rest ≡ None → past 44 rest ≡ None → all ≡ None
unfolding ahead
refuses schema done count less rest all a n e f = a ∙ rw (n, e, f) refl

pub over : (schema : Parse SchemaSyntax) (done : List (List ℕ × Group)) (count : ℕ) (rest : List ℕ) (all : Option (List (List ℕ × Group) × List ℕ)) → all ≡ ahead schema done count rest → count ≡ 0 → all ≡ None
unfolding ahead
over schema done count rest all a n = a ∙ rw n refl

pub breaks : (schema : Parse SchemaSyntax) (done : List (List ℕ × Group)) (count less : ℕ) (rest behind xs : List ℕ) (all : Option (List (List ℕ × Group) × List ℕ)) → all ≡ ahead schema done count rest → count ≡ suc less → past 125 rest ≡ None → past 44 rest ≡ Some behind → xs ≡ past_gap behind → read_as field_in (field_at schema xs) ≡ None → all ≡ None
unfolding ahead
breaks schema done count less rest behind xs all a n e f g none = a ∙ rw (n, e, f, ← g, unread field_in (field_at schema xs) none) refl

pub turns : (schema : Parse SchemaSyntax) (done : List (List ℕ × Group)) (count less : ℕ) (rest behind xs : List ℕ) (f : List ℕ × Group) (after next : List ℕ) (new : List (List ℕ × Group)) (all : Option (List (List ℕ × Group) × List ℕ)) → all ≡ ahead schema done count rest → count ≡ suc less → past 125 rest ≡ None → past 44 rest ≡ Some behind → xs ≡ past_gap behind
    → read_as field_in (field_at schema xs) ≡ Some (f, after) → next ≡ past_gap after → new ≡ done ++ f ∷ [] → all ≡ ahead schema new less next
unfolding ahead
turns schema done count less rest behind xs f after next new all a n e g h k l m =
    let r = was_read field_in (field_at schema xs) f after k in
    a ∙ rw (m, n, e, g, ← h, r.is_read, ← l) (by r.part r.stands (more_fields schema less next))
  where
    by : (w : FieldSyntax) → field_in w ≡ f → (o : Option (MoreFieldsSyntax × List ℕ)) → put_before done (option_map {U = MoreFieldsSyntax × List ℕ} (λ i. (next_field (front is_space behind) i.0 i.1 i.2, i.3)) (option_map {U = FieldSyntax × List ℕ × MoreFieldsSyntax × List ℕ} (λ m. (w, front is_space after, m.0, m.1)) o)) ≡ put_before (done ++ f ∷ []) o
    by w stands None = refl
    by w stands (Some m) = ap (λ xs. Some (xs, m.1)) (ap (λ v. done ++ v ∷ more_in m.0) stands ∙ sym (append_assoc done (f ∷ []) (more_in m.0)))

-- Objects, of whose fields no two have the same name.

braced_by : (gap : List ℕ) (fs : FieldsSyntax) (fields : List (List ℕ × Group)) (rest : List ℕ) → fields_in fs ≡ fields → read_as schema_of (cond (repeats (names_of (fields_in fs))) None (Some (braced gap fs, rest))) ≡ cond (repeats (names_of fields)) None (Some (group Optional (object_of (groups_from fields)), rest))
braced_by gap fs fields rest e = by (repeats (names_of (fields_in fs))) ∙ ap (λ gs. cond (repeats (names_of gs)) None (Some (group Optional (object_of (groups_from gs)), rest))) e
  where
    by : (b : Bool) → read_as schema_of (cond b None (Some (braced gap fs, rest))) ≡ cond b None (Some (group Optional (object_of (groups_from (fields_in fs))), rest))
    by true = refl
    by false = refl

braced_is : (room less : ℕ) (xs inside : List ℕ) (fields : List (List ℕ × Group)) (rest : List ℕ) → room ≡ suc less → inside ≡ past_gap xs → read_as fields_in (fields_at (λ zs. schema_at less zs) inside) ≡ Some (fields, rest) → read_as schema_of (braced_within room xs) ≡ cond (repeats (names_of fields)) None (Some (group Optional (object_of (groups_from fields)), rest))
braced_is room less xs inside fields rest n i e =
    let r = was_read fields_in (fields_at (λ zs. schema_at less zs) inside) fields rest e in
    rw (n, ← i, r.is_read) (braced_by (gap_of xs) r.part fields rest r.stands)

pub braced_twice : (room less : ℕ) (xs inside : List ℕ) (fields : List (List ℕ × Group)) (rest : List ℕ) → room ≡ suc less → inside ≡ past_gap xs → read_as fields_in (fields_at (λ zs. schema_at less zs) inside) ≡ Some (fields, rest) → true ≡ repeats (names_of fields) → read_as schema_of (braced_within room xs) ≡ None
braced_twice room less xs inside fields rest n i e twice = braced_is room less xs inside fields rest n i e ∙ rw (← twice) refl

pub braced_once : (room less : ℕ) (xs inside : List ℕ) (fields : List (List ℕ × Group)) (rest : List ℕ) → room ≡ suc less → inside ≡ past_gap xs → read_as fields_in (fields_at (λ zs. schema_at less zs) inside) ≡ Some (fields, rest) → false ≡ repeats (names_of fields) → read_as schema_of (braced_within room xs) ≡ Some (group Optional (object_of (groups_from fields)), rest)
braced_once room less xs inside fields rest n i e once = braced_is room less xs inside fields rest n i e ∙ rw (← once) refl
