-- A turn of the loops over the items of an array or an object, and what its exits answer.
use Rattle.std.proofs.Common.{◌≡◌, ◌∙◌, refl, ap, length, ℕ, suc, List, [], ◌∷◌, ◌++◌, Option, Some, None, append-nil, append_assoc, map}
use Rattle.std.specs.Option.{option_map}
use Rattle.vs_bytes.specs.Names.{repeats}
use Rattle.json_strings.specs.Pieces.{Piece}
use Rattle.json_strings.specs.Meaning.{text_of, lone_of}
use Rattle.json_strings.specs.Reading.{string_at, quoted_at}
use Rattle.json_tree.specs.Json.{Json, parts_of, part, text, array}
use Rattle.json_grammar.specs.Grammar as written
use Rattle.json_grammar.specs.Grammar.{Written, Elements, no_elements, first_element, MoreElements, end_elements, next_element, Entry, entry, Entries, no_entries, first_entry, MoreEntries, end_entries, next_entry}
use Rattle.byte_parsing.specs.Lists.{more_at, all_at}
use Rattle.byte_parsing.specs.Parse.{Parse, and_then, past}
use Rattle.json_grammar.specs.Reading.{is_space, gap_of, past_gap, entry_at, text_at, array_at, object_at, elements_at, entries_at, value_at, nested}
use Rattle.exact_json.specs.Meaning.{Flaws, flawless, joined, lone_flaw, repeated_flaw, tree_of, flaws_of, parts_in, more_parts_in, elements_flaws, more_elements_flaws, pair_in, entry_flaws, pairs_in, more_pairs_in, entries_flaws, more_entries_flaws, object_or_null}
use Rattle.exact_json.specs.Parsing.{told_as, told, told_string, told_elements, told_entry, told_entries, items_in, more_items_in}
use Rattle.exact_json.proofs.Joining.{joined_assoc}

-- what stands for something was read
unread : {A B : Type 0} (value : A → B) (flaws : A → Flaws) (before : Flaws) (o : Option (A × List ℕ)) → told_as value flaws before o ≡ None → o ≡ None
unread value flaws before None e = refl
unread value flaws before (Some a) e = cc

-- what was read, and what it stands for
pub record WasRead {A B : Type 0} (value : A → B) (flaws : A → Flaws) (before : Flaws) (o : Option (A × List ℕ)) (b : B) (now : Flaws) (after : List ℕ) : Type 0 where
  pub part : A
  pub is_read : o ≡ Some (part, after)
  pub is_value : value part ≡ b
  pub is_now : joined before (flaws part) ≡ now

was_read : {A B : Type 0} (value : A → B) (flaws : A → Flaws) (before : Flaws) (o : Option (A × List ℕ)) (b : B) (now : Flaws) (after : List ℕ) → told_as value flaws before o ≡ Some (b, now, after) → WasRead value flaws before o b now after
was_read value flaws before None b now after e = cc
was_read {A} {B} value flaws before (Some a) b now after e =
    let both : ◌≡◌ {A = B × Flaws × List ℕ} (value a.0, joined before (flaws a.0), a.1) (b, now, after) = cc in
    record { part = a.0; is_read = ap (λ (r : List ℕ). Some (a.0, r)) (ap (λ p. p.2) both); is_value = ap (λ p. p.0) both; is_now = ap (λ p. p.1) both }

module _ {V M J : Type 0} (close : ℕ) (end : M) (next : List ℕ → V → List ℕ → M → M) (item : Parse V) (value : V → J) (flaws : V → Flaws) (items : M → List J) (all_flaws : M → Flaws) where
  -- what is read where some items are known
  abbrev pub behind : List J → Flaws → ℕ → List ℕ → Option (List J × Flaws × List ℕ)
  behind js before count rest = option_map (λ p. (js ++ items p.0, joined before (all_flaws p.0), p.1)) (more_at is_space close end next item count rest)

  -- how the constructors are counted
  pub record Counts : Type 0 where
    pub end_items : items end ≡ []
    pub end_flaws : all_flaws end ≡ flawless
    pub next_items : (before : List ℕ) (a : V) (gap : List ℕ) (m : M) → items (next before a gap m) ≡ value a ∷ items m
    pub next_flaws : (before : List ℕ) (a : V) (gap : List ℕ) (m : M) → all_flaws (next before a gap m) ≡ joined (flaws a) (all_flaws m)

  pub ends : Counts → (js : List J) (before : Flaws) (count less : ℕ) (rest after : List ℕ) → count ≡ suc less → past close rest ≡ Some after → behind js before count rest ≡ Some (js, before, after)
  ends c js before count less rest after n e = rw (n, e, c.end_items, c.end_flaws, append-nil) refl

  pub stops : (js : List J) (before : Flaws) (count less : ℕ) (rest : List ℕ) → count ≡ suc less → past close rest ≡ None → past 44 rest ≡ None → behind js before count rest ≡ None
  stops js before count less rest n e f = rw (n, e, f) refl

  pub refuses : (js : List J) (before : Flaws) (count less : ℕ) (rest ys xs : List ℕ) → count ≡ suc less → past close rest ≡ None → past 44 rest ≡ Some ys → xs ≡ past_gap ys → told_as value flaws before (item xs) ≡ None → behind js before count rest ≡ None
  refuses js before count less rest ys xs n e f g h = rw (n, e, f, ← g, unread value flaws before (item xs) h) refl

  turned : Counts → (js : List J) (before : Flaws) (count less : ℕ) (rest ys xs : List ℕ) (a : V) (after : List ℕ) → count ≡ suc less → past close rest ≡ None → past 44 rest ≡ Some ys → xs ≡ past_gap ys → item xs ≡ Some (a, after)
      → behind js before count rest ≡ behind (js ++ value a ∷ []) (joined before (flaws a)) less (past_gap after)
  turned c js before count less rest ys xs a after n e f g h = rw (n, e, f, ← g, h) (by (more_at is_space close end next item less (past_gap after)))
    where
      by : (o : Option (M × List ℕ)) → option_map {U = List J × Flaws × List ℕ} (λ p. (js ++ items p.0, joined before (all_flaws p.0), p.1)) (option_map {T = V × List ℕ × M × List ℕ} {U = M × List ℕ} (λ i. (next (gap_of ys) i.0 i.1 i.2, i.3)) (option_map {T = M × List ℕ} {U = V × List ℕ × M × List ℕ} (λ m. (a, gap_of after, m.0, m.1)) o)) ≡ option_map {U = List J × Flaws × List ℕ} (λ p. ((js ++ value a ∷ []) ++ items p.0, joined (joined before (flaws a)) (all_flaws p.0), p.1)) o
      by None = refl
      by (Some m) = rw (c.next_items, c.next_flaws, append_assoc, joined_assoc) refl

  turned_as : Counts → (js more : List J) (before now : Flaws) (count less : ℕ) (rest ys xs : List ℕ) (a : V) (j : J) (after left : List ℕ) → count ≡ suc less → past close rest ≡ None → past 44 rest ≡ Some ys → xs ≡ past_gap ys → item xs ≡ Some (a, after) → value a ≡ j → joined before (flaws a) ≡ now → more ≡ js ++ j ∷ [] → left ≡ past_gap after
      → behind js before count rest ≡ behind more now less left
  turned_as c js more before now count less rest ys xs a j after left n e f g h u v k l = rw (k, l, ← u, ← v) (turned c js before count less rest ys xs a after n e f g h)

  pub turns : Counts → (js more : List J) (before now : Flaws) (count less : ℕ) (rest ys xs : List ℕ) (j : J) (after left : List ℕ) → count ≡ suc less → past close rest ≡ None → past 44 rest ≡ Some ys → xs ≡ past_gap ys → told_as value flaws before (item xs) ≡ Some (j, now, after) → more ≡ js ++ j ∷ [] → left ≡ past_gap after
      → behind js before count rest ≡ behind more now less left
  turns c js more before now count less rest ys xs j after left n e f g h k l =
      let read = was_read value flaws before (item xs) j now after h in
      turned_as c js more before now count less rest ys xs read.part j after left n e f g read.is_read read.is_value read.is_now k l

  -- the first item
  module _ {E : Type 0} (none : E) (first : V → List ℕ → M → E) (all_items : E → List J) (whole_flaws : E → Flaws) where
    pub record First : Type 0 where
      pub first_items : (a : V) (gap : List ℕ) (m : M) → all_items (first a gap m) ≡ value a ∷ items m
      pub first_flaws : (a : V) (gap : List ℕ) (m : M) → whole_flaws (first a gap m) ≡ joined (flaws a) (all_flaws m)

    started : First → (before : Flaws) (xs : List ℕ) (a : V) (after : List ℕ) (count : ℕ) → past close xs ≡ None → item xs ≡ Some (a, after) → count ≡ length (past_gap after)
        → told_as all_items whole_flaws before (all_at is_space close none first end next item xs) ≡ behind (value a ∷ []) (joined before (flaws a)) count (past_gap after)
    started c before xs a after count e h k = rw (e, h, k) (by (more_at is_space close end next item (length (past_gap after)) (past_gap after)))
      where
        by : (o : Option (M × List ℕ)) → option_map {U = List J × Flaws × List ℕ} (λ p. (all_items p.0, joined before (whole_flaws p.0), p.1)) (option_map {T = V × List ℕ × M × List ℕ} {U = E × List ℕ} (λ i. (first i.0 i.1 i.2, i.3)) (option_map {T = M × List ℕ} {U = V × List ℕ × M × List ℕ} (λ m. (a, gap_of after, m.0, m.1)) o)) ≡ option_map {U = List J × Flaws × List ℕ} (λ p. ((value a ∷ []) ++ items p.0, joined (joined before (flaws a)) (all_flaws p.0), p.1)) o
        by None = refl
        by (Some m) = rw (c.first_items, c.first_flaws, joined_assoc) refl

    started_as : First → (more : List J) (before now : Flaws) (xs : List ℕ) (a : V) (j : J) (after left : List ℕ) (count : ℕ) → past close xs ≡ None → item xs ≡ Some (a, after) → value a ≡ j → joined before (flaws a) ≡ now → more ≡ j ∷ [] → left ≡ past_gap after → count ≡ length left
        → told_as all_items whole_flaws before (all_at is_space close none first end next item xs) ≡ behind more now count left
    started_as c more before now xs a j after left count e h u v k l n = rw (k, l, ← u, ← v) (started c before xs a after count e h (n ∙ ap length l))

    pub starts : First → (more : List J) (before now : Flaws) (xs : List ℕ) (j : J) (after left : List ℕ) (count : ℕ) → past close xs ≡ None → told_as value flaws before (item xs) ≡ Some (j, now, after) → more ≡ j ∷ [] → left ≡ past_gap after → count ≡ length left
        → told_as all_items whole_flaws before (all_at is_space close none first end next item xs) ≡ behind more now count left
    starts c more before now xs j after left count e h k l n =
        let read = was_read value flaws before (item xs) j now after h in
        started_as c more before now xs read.part j after left count e read.is_read read.is_value read.is_now k l n

-- Strings.

text_by : (before : Flaws) (o : Option (List Piece × List ℕ)) → told before (option_map (λ read. (written.text read.0, read.1)) o) ≡ option_map (λ q. (text q.0, q.1, q.2)) (told_string before (option_map (λ read. (text_of read.0, lone_of read.0, read.1)) o))
text_by before None = refl
text_by before (Some p) = refl

pub text_told : (before : Flaws) (xs : List ℕ) → told before (text_at xs) ≡ option_map (λ q. (text q.0, q.1, q.2)) (told_string before (quoted_at xs))
text_told before xs = text_by before (string_at xs)

-- An entry, from its parts.

entry_by : (v : Parse Written) (before : Flaws) (o : Option (List Piece × List ℕ)) (name : List ℕ) (now : Flaws) (left rest : List ℕ) → told_string before (option_map (λ read. (text_of read.0, lone_of read.0, read.1)) o) ≡ Some (name, now, left) → past 58 (past_gap left) ≡ Some rest
    → told_entry before (and_then o (λ n. and_then (past 58 (past_gap n.1)) (λ b. option_map (λ w. (entry n.0 (gap_of n.1) (gap_of b) w.0, w.1)) (v (past_gap b))))) ≡ option_map (λ p. ((name, p.0), p.1, p.2)) (told now (v (past_gap rest)))
entry_by v before None name now left rest e f = cc
entry_by v before (Some n) name now left rest e f =
    let both : ◌≡◌ {A = List ℕ × Flaws × List ℕ} (text_of n.0, joined before (lone_flaw (lone_of n.0)), n.1) (name, now, left) = cc in
    let first : text_of n.0 ≡ name = ap (λ p. p.0) both in
    let second : joined before (lone_flaw (lone_of n.0)) ≡ now = ap (λ p. p.1) both in
    let third : n.1 ≡ left = ap (λ p. p.2) both in
    rw (third, f, ← first, ← second) (by (v (past_gap rest)))
  where
    by : (o : Option (Written × List ℕ)) → told_entry before (option_map (λ w. (entry n.0 (gap_of left) (gap_of rest) w.0, w.1)) o) ≡ option_map (λ p. ((text_of n.0, p.0), p.1, p.2)) (told (joined before (lone_flaw (lone_of n.0))) o)
    by None = refl
    by (Some w) = rw (joined_assoc before (lone_flaw (lone_of n.0)) (flaws_of w.0)) refl

pub entry_is : (v : Parse Written) (before : Flaws) (xs inside name : List ℕ) (now : Flaws) (left rest : List ℕ) → past 34 xs ≡ Some inside → told_string before (quoted_at inside) ≡ Some (name, now, left) → past 58 (past_gap left) ≡ Some rest
    → told_entry before (entry_at v xs) ≡ option_map (λ p. ((name, p.0), p.1, p.2)) (told now (v (past_gap rest)))
entry_is v before xs inside name now left rest e f g = rw e (entry_by v before (string_at inside) name now left rest f g)

string_unread : (before : Flaws) (o : Option (List Piece × List ℕ)) → told_string before (option_map (λ read. (text_of read.0, lone_of read.0, read.1)) o) ≡ None → o ≡ None
string_unread before None e = refl
string_unread before (Some n) e = cc

pub no_name : (v : Parse Written) (before : Flaws) (xs inside : List ℕ) → past 34 xs ≡ Some inside → told_string before (quoted_at inside) ≡ None → told_entry before (entry_at v xs) ≡ None
no_name v before xs inside e f = rw (e, string_unread before (string_at inside) f) refl

no_colon_by : (v : Parse Written) (before : Flaws) (o : Option (List Piece × List ℕ)) (name : List ℕ) (now : Flaws) (left : List ℕ) → told_string before (option_map (λ read. (text_of read.0, lone_of read.0, read.1)) o) ≡ Some (name, now, left) → past 58 (past_gap left) ≡ None
    → told_entry before (and_then o (λ n. and_then (past 58 (past_gap n.1)) (λ b. option_map (λ w. (entry n.0 (gap_of n.1) (gap_of b) w.0, w.1)) (v (past_gap b))))) ≡ None
no_colon_by v before None name now left e f = cc
no_colon_by v before (Some n) name now left e f =
    let both : ◌≡◌ {A = List ℕ × Flaws × List ℕ} (text_of n.0, joined before (lone_flaw (lone_of n.0)), n.1) (name, now, left) = cc in
    rw (ap (λ p. p.2) both, f) refl

pub no_colon : (v : Parse Written) (before : Flaws) (xs inside name : List ℕ) (now : Flaws) (left : List ℕ) → past 34 xs ≡ Some inside → told_string before (quoted_at inside) ≡ Some (name, now, left) → past 58 (past_gap left) ≡ None → told_entry before (entry_at v xs) ≡ None
no_colon v before xs inside name now left e f g = rw e (no_colon_by v before (string_at inside) name now left f g)

-- Arrays and objects, from what they hold.

more_parts_are : (es : MoreElements) → more_parts_in es ≡ parts_of (more_items_in es)
more_parts_are end_elements = refl
more_parts_are (next_element before w gap es) = ap (λ ps. part (tree_of w) ps) (more_parts_are es)

parts_are : (es : Elements) → parts_in es ≡ parts_of (items_in es)
parts_are no_elements = refl
parts_are (first_element w gap es) = ap (λ ps. part (tree_of w) ps) (more_parts_are es)

array_is : (E : Parse Elements) (before : Flaws) (xs : List ℕ) → told before (array_at E xs) ≡ option_map (λ p. (array (parts_of p.0), p.1, p.2)) (told_elements before (E (past_gap xs)))
array_is E before xs = by (E (past_gap xs))
  where
    by : (o : Option (Elements × List ℕ)) → told before (option_map (λ read. (written.array (gap_of xs) read.0, read.1)) o) ≡ option_map (λ p. (array (parts_of p.0), p.1, p.2)) (told_elements before o)
    by None = refl
    by (Some p) = rw (parts_are p.0) refl

-- an array that may be opened
pub array_within : (depth less : ℕ) (before : Flaws) (xs : List ℕ) → depth ≡ suc less → told before (array_at (nested depth).0 xs) ≡ option_map (λ p. (array (parts_of p.0), p.1, p.2)) (told_elements before (elements_at (λ ys. value_at less ys) (past_gap xs)))
unfolding nested
array_within depth less before xs e = rw e (array_is (λ ys. elements_at (λ zs. value_at less zs) ys) before xs)

-- an object of members, and what it adds to the flaws
abbrev pub object_told : Flaws → List (List ℕ × Json) → List ℕ → Json × Flaws × List ℕ
object_told before ms rest = (object_or_null ms, joined before (repeated_flaw (repeats (map (λ m. m.0) ms))), rest)

object_is : (E : Parse Entries) (before : Flaws) (xs : List ℕ) → told before (object_at E xs) ≡ option_map (λ p. object_told p.1 p.0 p.2) (told_entries before (E (past_gap xs)))
object_is E before xs = by (E (past_gap xs))
  where
    by : (o : Option (Entries × List ℕ)) → told before (option_map (λ read. (written.object (gap_of xs) read.0, read.1)) o) ≡ option_map (λ p. object_told p.1 p.0 p.2) (told_entries before o)
    by None = refl
    by (Some p) = rw (joined_assoc before (entries_flaws p.0) (repeated_flaw (repeats (map (λ m. m.0) (pairs_in p.0))))) refl

-- an object that may be opened
pub object_within : (depth less : ℕ) (before : Flaws) (xs : List ℕ) → depth ≡ suc less → told before (object_at (nested depth).1 xs) ≡ option_map (λ p. object_told p.1 p.0 p.2) (told_entries before (entries_at (λ ys. value_at less ys) (past_gap xs)))
unfolding nested
object_within depth less before xs e = rw e (object_is (λ ys. entries_at (λ zs. value_at less zs) ys) before xs)

-- Elements and entries are counted so.

pub element_counts : (item : Parse Written) → Counts 93 end_elements next_element item tree_of flaws_of more_items_in more_elements_flaws
element_counts item = record { end_items = refl; end_flaws = refl; next_items = λ before a gap m. refl; next_flaws = λ before a gap m. refl }

pub element_first : (item : Parse Written) → First 93 end_elements next_element item tree_of flaws_of more_items_in more_elements_flaws no_elements first_element items_in elements_flaws
element_first item = record { first_items = λ a gap m. refl; first_flaws = λ a gap m. refl }

pub entry_counts : (item : Parse Entry) → Counts 125 end_entries next_entry item pair_in entry_flaws more_pairs_in more_entries_flaws
entry_counts item = record { end_items = refl; end_flaws = refl; next_items = λ before a gap m. refl; next_flaws = λ before a gap m. refl }

pub entry_first : (item : Parse Entry) → First 125 end_entries next_entry item pair_in entry_flaws more_pairs_in more_entries_flaws no_entries first_entry pairs_in entries_flaws
entry_first item = record { first_items = λ a gap m. refl; first_flaws = λ a gap m. refl }
