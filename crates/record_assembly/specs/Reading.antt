-- A record read from its entries, one list of entries a leaf: the plain inverse of `entries`. It takes a part for
-- absent where each of its leaves that are read says so, else for there, and each part checks itself. Nothing is asked
-- of a leaf that isn't read.
use Rattle.std.specs.Prelude.{ℕ, zero, suc, ◌+◌, ◌==◌, max, List, [], ◌∷◌, length, Bool, true, false, cond, ◌&&◌, Option, Some, None}
use Rattle.std.specs.Option.{option_map, option_and_then}
use Rattle.vs_bytes.specs.declared.leaf_columns.Cell.{Cell}
use Rattle.vs_bytes.specs.declared.leaf_columns.Cell.TheVariants as leaf_cell
use Rattle.vs_bytes.specs.declared.leaf_columns.Entry.{Entry}
use Rattle.vs_bytes.specs.declared.leaf_columns.PrimKind.{PrimKind}
use Rattle.shred_schema.specs.declared.nodes.Slot.{Slot}
use Rattle.shred_schema.specs.declared.nodes.Slot.TheVariants.{Absent, Required, Optional}
use Rattle.shred_schema.specs.Cells.{is_of_prim}
use Rattle.shred_schema.specs.Groups.{Group, group, Kind, free, scalar, object_of, list_of, Groups, no_groups, field, slot_width, width, kind_width}
use Rattle.shred_schema.specs.Ranges.{each_read}
use Rattle.shred_schema.specs.Recs.{Rec, rec, RecPart, empty, cell, fields, items, Recs, no_recs, recs, recs_from, RowRec, absent, present}
use Rattle.record_assembly.specs.Cuts.{first_item, later_items, is_nil}

-- ---- one leaf

abbrev pub has_levels : ℕ → ℕ → Entry → Bool
has_levels r d e = e.rep == r && e.def == d

-- the one entry has these levels and no value
abbrev pub is_null : ℕ → ℕ → List Entry → Bool
is_null r d [] = false
is_null r d (e ∷ []) = has_levels r d e && is_missing e.value
  where
    is_missing : Option Cell → Bool
    is_missing None = true
    is_missing (Some c) = false
is_null r d (e ∷ f ∷ es) = false

-- the value of the one entry, where it has these levels
abbrev pub only_cell : ℕ → ℕ → List Entry → Option Cell
only_cell r d [] = None
only_cell r d (e ∷ []) = cond (has_levels r d e) e.value None
only_cell r d (e ∷ f ∷ es) = None

abbrev pub bytes_in : Cell → Option (List ℕ)
bytes_in (leaf_cell.Bool b) = None
bytes_in (leaf_cell.Num z) = None
bytes_in (leaf_cell.Bytes bytes) = Some bytes

abbrev pub bytes_read : ℕ → ℕ → List Entry → Option (List ℕ)
bytes_read r d es = option_and_then bytes_in (only_cell r d es)

-- a value, or that there is none; `read` says whether its leaf is read
abbrev pub value_read : Slot → Bool → ℕ → ℕ → List Entry → Option (Option (List ℕ))
value_read Absent read r d es = Some None
value_read Required read r d es = cond read (option_map Some (bytes_read r d es)) (Some None)
value_read Optional read r d es = cond read (cond (is_null r d es) (Some None) (option_map Some (bytes_read r (d + 1) es))) (Some None)

abbrev pub cell_read : PrimKind → Option Cell → Option RecPart
cell_read q None = None
cell_read q (Some c) = cond (is_of_prim q c) (Some (cell c)) None

-- ---- parts joined

abbrev pub with_part : Option (Option (List ℕ)) → Option RecPart → Option Rec
with_part (Some v) (Some p) = Some (rec v p)
with_part (Some v) None = None
with_part None p = None

abbrev pub with_field : Option Rec → Option Recs → Option Recs
with_field (Some x) (Some xs) = Some (recs x xs)
with_field (Some x) None = None
with_field None xs = None

abbrev pub with_item : {A : Type 0} → Option A → Option (List A) → Option (List A)
with_item (Some x) (Some xs) = Some (x ∷ xs)
with_item (Some x) None = None
with_item None xs = None

-- Items, of which there is one at least: the first begins with repetition level r, each later one with m. `done` says
-- that no entries are left, and `fuel` bounds the number of items.
abbrev pub items_read : {A : Type 0} → (ℕ → (ℕ → List Entry) → Option A) → ((ℕ → List Entry) → Bool) → ℕ → ℕ → ℕ → (ℕ → List Entry) → Option (List A)
items_read read done m zero r es = None
items_read read done m (suc fuel) r es = with_item (read r (λ j. first_item m (es j))) (cond (done (λ j. later_items m (es j))) (Some []) (items_read read done m fuel m (λ j. later_items m (es j))))

-- the longest list of `count` leaves from k on
abbrev pub longest : ℕ → ℕ → (ℕ → List Entry) → ℕ
longest k zero es = 0
longest k (suc count) es = max (length (es k)) (longest (k + 1) count es)

-- no entries are left in the leaves that are read
abbrev pub are_nil : (ℕ → Bool) → ℕ → ℕ → (ℕ → List Entry) → Bool
are_nil mask k count es = each_read mask k count (λ j. is_nil (es j))

-- the leaves that are read each have the one entry without value
abbrev pub are_null : (ℕ → Bool) → ℕ → ℕ → ℕ → ℕ → (ℕ → List Entry) → Bool
are_null mask k count r d es = each_read mask k count (λ j. is_null r d (es j))

-- ---- records, where their first entries have repetition level r, m lists stand round them and the definition level d
-- is reached

abbrev mutual
  pub read : Group → ℕ → (ℕ → Bool) → ℕ → ℕ → ℕ → (ℕ → List Entry) → Option Rec
  read (group s t) k mask r m d es = with_part (value_read s (mask k) r d (es k)) (cond (are_null mask (k + slot_width s) (kind_width t) r d es) (Some empty) (part_read t (k + slot_width s) mask r m d es))

  -- a typed part that is there
  pub part_read : Kind → ℕ → (ℕ → Bool) → ℕ → ℕ → ℕ → (ℕ → List Entry) → Option RecPart
  part_read free k mask r m d es = None
  part_read (scalar q) k mask r m d es = cell_read q (only_cell r (d + 1) (es k))
  part_read (object_of gs) k mask r m d es = option_map fields (fields_read gs k mask r m (d + 1) es)
  part_read (list_of n) k mask r m d es = cond (are_null mask k (width n) r (d + 1) es) (Some (items no_recs)) (option_map (λ xs. items (recs_from xs)) (items_read (λ a fs. read n k mask a (m + 1) (d + 2) fs) (are_nil mask k (width n)) (m + 1) (suc (longest k (width n) es)) r es))

  pub fields_read : Groups → ℕ → (ℕ → Bool) → ℕ → ℕ → ℕ → (ℕ → List Entry) → Option Recs
  fields_read no_groups k mask r m d es = Some no_recs
  fields_read (field name n gs) k mask r m d es = with_field (read n k mask r m d es) (fields_read gs (k + width n) mask r m d es)

-- ---- rows

abbrev pub with_meta : Option (List ℕ) → Option Rec → Option RowRec
with_meta (Some meta) (Some x) = Some (present meta x)
with_meta (Some meta) None = None
with_meta None x = None

-- the metadata: no bytes where its leaf isn't read
abbrev pub meta_read : Bool → ℕ → ℕ → List Entry → Option (List ℕ)
meta_read read r d es = cond read (bytes_read r d es) (Some [])

abbrev pub present_read : Group → (ℕ → Bool) → ℕ → ℕ → (ℕ → List Entry) → Option RowRec
present_read n mask r d es = with_meta (meta_read (mask 0) r d (es 0)) (read n 1 mask r 0 d es)

abbrev pub row_read : Bool → Group → (ℕ → Bool) → ℕ → (ℕ → List Entry) → Option RowRec
row_read false n mask r es = present_read n mask r 0 es
row_read true n mask r es = cond (are_null mask 0 (1 + width n) r 0 es) (Some absent) (present_read n mask r 1 es)

-- all rows of a column
abbrev pub rows_read : Bool → Group → (ℕ → Bool) → (ℕ → List Entry) → Option (List RowRec)
rows_read optional n mask es = cond (are_nil mask 0 (1 + width n) es) (Some []) (items_read (row_read optional n mask) (are_nil mask 0 (1 + width n)) 0 (suc (longest 0 (1 + width n) es)) 0 es)
