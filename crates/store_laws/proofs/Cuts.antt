-- Rows are cut into groups that are small enough, and have all of them in their order.
use Rattle.std.proofs.Common.{◌≡◌, ◌∙◌, refl, sym, ap, subst, ℕ, ◌+◌, ◌<◌, ◌≤◌, Bool, true, false, cond, ◌||◌, List, [], ◌∷◌, ◌++◌, length, Option, Some, None, arith}
use Rattle.std.specs.Prelude.{nat_le}
use Rattle.std.specs.List.{AllByRecursion, flat_map, fold}
use Rattle.std.proofs.lemmas.Bool.{or_parts}
use Rattle.std.proofs.lemmas.Bool.Decides.{nat_tests}
use Rattle.std.proofs.lemmas.List.{append_assoc, append-nil}
use Rattle.json_tree.specs.Json.{Json}
use Rattle.shred_schema.specs.Groups.{Group}
use Rattle.striping_laws.specs.Rows.{text_len, texts_len, max_texts_len}
use Rattle.open_group.specs.declared.settings.Settings.{Settings}
use Rattle.open_group.specs.Filling.{texts_limit, entries_limit, is_full, rows_count, records_of}
use Rattle.store_write.specs.Cutting.{Cut, with_row, cut_of, with_last, groups_of}
use Rattle.reading_laws.specs.Documents.{IsDocument}

-- a group whose texts are short enough together
pub record IsSmall (rows : List (Option Json)) : Type 0 where
  pub each : AllByRecursion (IsDocument true) rows
  pub few : texts_len rows ≤ max_texts_len

abbrev pub joined : List (List (Option Json)) → List (Option Json)
joined groups = flat_map (λ rows. rows) groups

-- what is known of a cut of rows
record IsCut (c : Cut (Option Json)) (all : List (Option Json)) : Type 0 where
  whole : joined c.closed ++ c.rest ≡ all
  small : AllByRecursion IsSmall c.closed
  each : AllByRecursion (IsDocument true) c.rest
  light : texts_len c.rest < texts_limit

all_more : {A : Type 0} (P : A → Type 0) (xs : List A) (x : A) → AllByRecursion P xs → P x → AllByRecursion P (xs ++ x ∷ [])
all_more P [] x all h = (h, tt)
all_more P (y ∷ ys) x all h = (all.0, all_more P ys x all.1 h)

texts_more : (rows : List (Option Json)) (row : Option Json) → texts_len (rows ++ row ∷ []) ≡ texts_len rows + (text_len row + 1)
texts_more [] row = omega arith
texts_more (x ∷ rows) row = omega (arith, texts_more rows row)

joined_more : (groups : List (List (Option Json))) (rows : List (Option Json)) → joined (groups ++ rows ∷ []) ≡ joined groups ++ rows
joined_more [] rows = append-nil rows
joined_more (x ∷ groups) rows = ap (λ more. x ++ more) (joined_more groups rows) ∙ sym (append_assoc x (joined groups) rows)

short_row : (row : Option Json) → IsDocument true row → text_len row ≤ 16777216
short_row None is = omega arith
short_row (Some j) is = is.1

not_at_least : (a b : ℕ) → nat_le a b ≡ false → b < a
not_at_least a b = grind (arith, nat_tests)

still_light : (settings : Settings) (n : Group) (rows : List (Option Json)) → is_full settings n rows ≡ false → texts_len rows < texts_limit
unfolding is_full
still_light settings n rows h =
    let first = or_parts (nat_le settings.group_rows (length rows)) (nat_le texts_limit (texts_len rows) || nat_le entries_limit (rows_count n (records_of settings n rows))) h in
    let second = or_parts (nat_le texts_limit (texts_len rows)) (nat_le entries_limit (rows_count n (records_of settings n rows))) first.1 in
    not_at_least texts_limit (texts_len rows) second.0

module _ (settings : Settings) (n : Group) where
  more : (c : Cut (Option Json)) (row : Option Json) (all : List (Option Json)) → IsCut c all → IsDocument true row → IsCut (with_row (is_full settings n) c row) (all ++ row ∷ [])
  more c row all is document = by (is_full settings n (c.rest ++ row ∷ [])) refl
    where
      sum : texts_len (c.rest ++ row ∷ []) ≤ max_texts_len
      sum = omega (arith, texts_more c.rest row, is.light, short_row row document)

      each : AllByRecursion (IsDocument true) (c.rest ++ row ∷ [])
      each = all_more (IsDocument true) c.rest row is.each document

      ended : joined c.closed ++ (c.rest ++ row ∷ []) ≡ all ++ row ∷ []
      ended = sym (append_assoc (joined c.closed) c.rest (row ∷ [])) ∙ ap (λ rows. rows ++ row ∷ []) is.whole

      by : (b : Bool) → is_full settings n (c.rest ++ row ∷ []) ≡ b
          → IsCut (cond b (record { closed = c.closed ++ (c.rest ++ row ∷ []) ∷ []; rest = [] }) (record { closed = c.closed; rest = c.rest ++ row ∷ [] })) (all ++ row ∷ [])
      by true full = record {
        whole = append-nil (joined (c.closed ++ (c.rest ++ row ∷ []) ∷ [])) ∙ (joined_more c.closed (c.rest ++ row ∷ []) ∙ ended);
        small = all_more IsSmall c.closed (c.rest ++ row ∷ []) is.small (record { each = each; few = sum });
        each = tt;
        light = omega arith;
      }
      by false open_still = record { whole = ended; small = is.small; each = each; light = still_light settings n (c.rest ++ row ∷ []) open_still }

  all_cut : (c : Cut (Option Json)) (rows all : List (Option Json)) → IsCut c all → AllByRecursion (IsDocument true) rows → IsCut (fold (with_row (is_full settings n)) c rows) (all ++ rows)
  all_cut c [] all is documents = subst (IsCut c) (sym (append-nil all)) is
  all_cut c (row ∷ rows) all is documents =
      subst (IsCut (fold (with_row (is_full settings n)) (with_row (is_full settings n) c row) rows)) (append_assoc all (row ∷ []) rows) (all_cut (with_row (is_full settings n) c row) rows (all ++ row ∷ []) (more c row all is documents.0) documents.1)

  cut_is : (rows : List (Option Json)) → AllByRecursion (IsDocument true) rows → IsCut (cut_of (is_full settings n) rows) rows
  unfolding cut_of
  cut_is rows documents = all_cut (record { closed = []; rest = [] }) rows [] (record { whole = refl; small = tt; each = tt; light = omega arith }) documents

  -- the groups are small, and together they have the rows
  pub record AreGroups (groups : List (List (Option Json))) (rows : List (Option Json)) : Type 0 where
    pub whole : joined groups ≡ rows
    pub small : AllByRecursion IsSmall groups

  with_rest : (closed : List (List (Option Json))) (rest rows : List (Option Json)) → joined closed ++ rest ≡ rows → AllByRecursion IsSmall closed → AllByRecursion (IsDocument true) rest → texts_len rest < texts_limit → AreGroups (with_last closed rest) rows
  with_rest closed [] rows whole small each light = record { whole = sym (append-nil (joined closed)) ∙ whole; small = small }
  with_rest closed (row ∷ rest) rows whole small each light = record {
    whole = joined_more closed (row ∷ rest) ∙ whole;
    small = all_more IsSmall closed (row ∷ rest) small (record { each = each; few = omega (arith, light) });
  }

  pub groups_are : (rows : List (Option Json)) → AllByRecursion (IsDocument true) rows → AreGroups (groups_of (cut_of (is_full settings n) rows)) rows
  groups_are rows documents =
      let is = cut_is rows documents in
      with_rest (cut_of (is_full settings n) rows).closed (cut_of (is_full settings n) rows).rest rows is.whole is.small is.each is.light
