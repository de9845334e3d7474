-- A file that begins.
use Rattle.std.proofs.Common.{◌≡◌, ◌∙◌, ℕ, ◌+◌, ◌*◌, ◌^◌, ◌<◌, true, List, [], ◌∷◌, ◌++◌, length, ℤ, pos, Ok, Err, Option, None, Some, unwrap_or, inr, sym, ap, subst, refl, arith}
use Rattle.std.specs.List.{AllByRecursion}
use Rattle.std.proofs.lemmas.List.{length-append, length-map}
use Rattle.shred_schema.specs.Groups.{Group, group, Kind, free, scalar, object_of, list_of, Groups, no_groups, field, nesting, kind_nesting, groups_nesting}
use Rattle.shred_schema.specs.Lawful.{IsWellFormed}
use Rattle.shred_schema.specs.Leaves.{column_leaves}
use Rattle.shred_schema.specs.declared.nodes.Slot.{Slot}
use Rattle.shred_schema.specs.declared.nodes.Slot.TheVariants.{Absent, Required, Optional}
use Rattle.shred_schema.proofs.NodeFacts.{column_leaf_count}
use Rattle.written_columns.specs.Written.{value_paths, member_paths, typed_paths, field_paths, value_name, typed_name, list_name, element_name}
use Rattle.written_columns.proofs.Ways.{paths_counted}
use Rattle.group_writing.specs.GroupChunks.{Path}
use Rattle.open_group.specs.OpenGroups.{IsShortPath}
use Rattle.std.specs.FinMap.{get, insert}
use Rattle.shred_schema.specs.Views.{group_of}
use Rattle.shred_schema.specs.declared.nodes.Column.{Column}
use Rattle.schema_elements.specs.declared.elements.SchemaElement.{SchemaElement}
use Rattle.open_group.specs.declared.settings.Settings.{Settings}
use Rattle.open_group.specs.OpenGroups.{Open, node_of}
use Rattle.footer_structs.specs.FileEnds.{magic}
use Rattle.closed_groups.specs.ClosedGroups.{Closed}
use Rattle.shelf.specs.Storage.{Files, Storage, with_file, appended}
use Rattle.shelf.specs.Calls.{Creates, Adds}
use Rattle.shelf.specs.declared.shelf.ShelfError.{ShelfError}
use Rattle.shelf.specs.declared.shelf.ShelfError.TheVariants as shelf
use Rattle.shelf.proofs.Appending.{get_inserted, insert_again}
use Rattle.store_write.specs.Cutting.{cut_of}
use Rattle.store_write.specs.Frames.{body_of}
use Rattle.store_write.specs.Refusals.{added_error}
use Rattle.store_write.specs.Writers.{StandsBy, Stands, StandsIn, Starts}
use Rattle.store_write.specs.declared.file_writer.FileWriter.{FileWriter}
use Rattle.store_write.specs.declared.write_error.WriteError.{WriteError}
use Rattle.store_write.specs.Made.{column_name, schema_of, paths_of, orders_of}

all_append : (xs ys : List Path) → AllByRecursion IsShortPath xs → AllByRecursion IsShortPath ys → AllByRecursion IsShortPath (xs ++ ys)
all_append [] ys h k = k
all_append (x ∷ xs) ys h k = (h.0, all_append xs ys h.1 k)

value_short : (way : Path) (s : Slot) → length way + 1 < 2 ^ 32 → AllByRecursion IsShortPath (value_paths way s)
value_short way Absent h = tt
value_short way Required h = (omega (arith, length-append way (value_name ∷ [])), tt)
value_short way Optional h = (omega (arith, length-append way (value_name ∷ [])), tt)

mutual
  members_short : (n : Group) (way : Path) → length way + (3 * nesting n + 1) < 2 ^ 32 → AllByRecursion IsShortPath (member_paths n way)
  members_short (group s t) way h = all_append (value_paths way s) (typed_paths t way) (value_short way s (omega arith)) (typed_short t way h)

  typed_short : (t : Kind) (way : Path) → length way + (3 * kind_nesting t + 1) < 2 ^ 32 → AllByRecursion IsShortPath (typed_paths t way)
  typed_short free way h = tt
  typed_short (scalar q) way h = (omega (arith, length-append way (typed_name ∷ [])), tt)
  typed_short (object_of gs) way h = fields_short gs (way ++ typed_name ∷ []) (omega (arith, length-append way (typed_name ∷ [])))
  typed_short (list_of n) way h =
      members_short n (((way ++ typed_name ∷ []) ++ list_name ∷ []) ++ element_name ∷ [])
      (omega (arith, length-append ((way ++ typed_name ∷ []) ++ list_name ∷ []) (element_name ∷ []), length-append (way ++ typed_name ∷ []) (list_name ∷ []), length-append way (typed_name ∷ [])))

  fields_short : (gs : Groups) (way : Path) → length way + (3 * groups_nesting gs + 2) < 2 ^ 32 → AllByRecursion IsShortPath (field_paths gs way)
  fields_short no_groups way h = tt
  fields_short (field name n gs) way h =
      all_append (member_paths n (way ++ name ∷ [])) (field_paths gs way) (members_short n (way ++ name ∷ []) (omega (arith, length-append way (name ∷ [])))) (fields_short gs way (omega arith))

-- the schema paths are short
pub paths_short : (n : Group) → IsWellFormed n → AllByRecursion IsShortPath (paths_of n)
paths_short n well = (omega arith, members_short n (column_name ∷ []) (omega (arith, well.deep)))

-- and there is one for each leaf
pub paths_each : (n : Group) → length (paths_of n) ≡ length (column_leaves true n)
paths_each n = paths_counted column_name n ∙ sym (column_leaf_count true n)

pub orders_few : (n : Group) → IsWellFormed n → length (orders_of (paths_of n)) < 2 ^ 32
orders_few n well = omega (arith, length-map (paths_of n) (λ (path : Path). pos 1), paths_counted column_name n, well.few)

-- no rows were written
fresh : (column : Column) (settings : Settings) (schema : List SchemaElement) (orders : List ℤ) (paths : List Path) → schema ≡ schema_of (group_of column.node) → orders ≡ orders_of (paths_of (group_of column.node))
    → paths ≡ paths_of (group_of column.node)
    → StandsBy settings (group_of column.node) (record { column = column; paths = paths; settings = settings; rows = []; texts = 0 }) (record { schema = schema; orders = orders; groups = []; place = 4 }) magic []
unfolding cut_of body_of
fresh column settings schema orders paths a b c = record { schema = a; orders = b; paths = c; closed = refl; rest = refl; texts = refl; at_end = refl }

pub fresh_stands : (column : Column) (settings : Settings) (schema : List SchemaElement) (orders : List ℤ) (paths : List Path) (g : Open) (c : Closed)
    → g ≡ record { column = column; paths = paths; settings = settings; rows = []; texts = 0 } → c ≡ record { schema = schema; orders = orders; groups = []; place = 4 }
    → schema ≡ schema_of (group_of column.node) → orders ≡ orders_of (paths_of (group_of column.node)) → paths ≡ paths_of (group_of column.node) → StandsBy g.settings (node_of g) g c magic []
fresh_stands column settings schema orders paths g c g_is c_is a b p =
    subst (λ (x : Open). StandsBy x.settings (node_of x) x c magic []) (sym g_is)
    (subst (λ (y : Closed). StandsBy settings (group_of column.node) (record { column = column; paths = paths; settings = settings; rows = []; texts = 0 }) y magic []) (sym c_is) (fresh column settings schema orders paths a b p))

-- a file that was made, with its first bytes
appended_created : (files : Option Files) (name bytes : List ℕ) → appended (with_file files name []) name bytes ≡ with_file files name bytes
appended_created None name bytes = refl
appended_created (Some m) name bytes =
    ap Some (ap (λ (o : Option (List ℕ)). insert (insert m name []) name (unwrap_or o [] ++ bytes)) (get_inserted m name []) ∙ insert_again m name [] bytes)

pub started : (before made after : Storage) (name own : List ℕ) → own ≡ name → Creates before made own (Ok tt) → Adds made after own magic (Ok tt) → Starts before after name None
started before made after name own is creates adds =
    subst (λ (x : List ℕ). Starts before after x None) is
    (creates.0, adds ∙ ap (λ (s : Storage). record s { files = appended s.files own magic }) creates.1 ∙ ap (λ (f : Option Files). record before { files = f }) (appended_created before.files own magic))

pub start_refused : (before made after : Storage) (name own : List ℕ) (e : ShelfError) (told : WriteError) → own ≡ name → told ≡ added_error e → Creates before made own (Ok tt) → Adds made after own magic (Err e)
    → Starts before after name (Some told)
start_refused before made after name own e told is told_is creates adds =
    subst (λ (x : List ℕ). Starts before after x (Some told)) is (subst (λ (t : WriteError). Starts before after own (Some t)) (sym told_is) (by e adds))
  where
    by : (e : ShelfError) → Adds made after own magic (Err e) → Starts before after own (Some (added_error e))
    by shelf.Absent h = absurd h
    by shelf.Taken h = absurd h
    by shelf.Failed h = inr (made, creates, h)
    by shelf.NoMemory h = inr (made, creates, h)

-- the writer stands in the new file
pub stands_started : (w : FileWriter) (before after : Storage) (name : List ℕ) → w.name ≡ name → Starts before after name None → Stands w magic [] → StandsIn after.files w []
stands_started w before after name is starts stands = by before.files refl
  where
    by : (files : Option Files) → before.files ≡ files → StandsIn after.files w []
    by None e = subst (λ (o : Option Files). StandsIn o w []) (sym (ap (λ (s : Storage). s.files) starts.1 ∙ ap (λ (o : Option Files). with_file o name magic) e)) tt
    by (Some m) e = subst (λ (o : Option Files). StandsIn o w []) (sym (ap (λ (s : Storage). s.files) starts.1 ∙ ap (λ (o : Option Files). with_file o name magic) e))
        (magic, ap (get (insert m name magic)) is ∙ get_inserted m name magic, stands)
