-- What is read of a record part by part, where each leaf is read: the same as `read`, cut where the code cuts it.
use Rattle.std.specs.Prelude.{◌≡◌, ℕ, ◌+◌, Bool, true, false, List, [], ◌∷◌, ◌++◌, cond, slice_index_or, suc, Option, Some, None, Result, Ok, Err}
use Rattle.vs_bytes.specs.declared.refused.Absent.{Absent}
use Rattle.vs_bytes.specs.declared.refused.Refused.{Refused}
use Rattle.vs_bytes.specs.declared.refused.Refused.TheVariants.{Fault, NoMemory}
use Rattle.vs_bytes.specs.declared.leaf_columns.Entry.{Entry}
use Rattle.shred_schema.specs.declared.nodes.Slot.TheVariants as slot
use Rattle.shred_schema.specs.declared.records.Record.{Record}
use Rattle.shred_schema.specs.Groups.{Group, group, Kind, free, width, kind_width}
use Rattle.shred_schema.specs.Ranges.{every}
use Rattle.shred_schema.specs.Recs.{Rec, RecPart, empty}
use Rattle.shred_schema.specs.Views.{rec_of}
use Rattle.record_assembly.specs.Cuts.{until}
use Rattle.record_assembly.specs.Reading.{items_read, longest, are_nil, are_null, read, part_read}

-- what an item of a list at level m has left in a leaf, after some of its entries
abbrev pub rests : ℕ → List (List Entry) → ℕ → List Entry
rests m cursors j = until m (slice_index_or cursors j [])

-- a typed part: nothing where each of its leaves says so
abbrev pub typed_read : Kind → ℕ → ℕ → ℕ → ℕ → (ℕ → List Entry) → Option RecPart
typed_read t k r m d es = cond (are_null every k (kind_width t) r d es) (Some empty) (part_read t k every r m d es)

-- the items of a list, of which there is one at least
unfoldable pub list_read : Group → ℕ → ℕ → ℕ → ℕ → (ℕ → List Entry) → Option (List Rec)
list_read n k r m d es = items_read (λ a fs. read n k every a (m + 1) (d + 2) fs) (are_nil every k (width n)) (m + 1) (suc (longest k (width n) es)) r es

-- the items after the first one
unfoldable pub rest_read : Group → ℕ → ℕ → ℕ → (ℕ → List Entry) → Option (List Rec)
rest_read n k m d es = cond (are_nil every k (width n) es) (Some []) (list_read n k (m + 1) m d es)

-- a list that is there
abbrev pub items_of : Group → ℕ → ℕ → ℕ → ℕ → (ℕ → List Entry) → Option (List Rec)
items_of n k r m d es = cond (are_null every k (width n) r (d + 1) es) (Some []) (list_read n k r m d es)

-- there is no typed part
abbrev pub is_free : Kind → Bool
is_free free = true
is_free t = false

-- nor a value
abbrev pub is_bare : Group → Bool
is_bare (group slot.Absent t) = is_free t
is_bare (group s t) = false

-- one more record stands at the end: the one that is read
pub record Put (defined : Option Rec) (old new : List Record) : Type 0 where
  pub one : Record
  pub is : defined ≡ Some (rec_of one)
  pub put : new ≡ old ++ one ∷ []

-- the same of a call, or nothing is read. Out of memory says nothing
abbrev pub Puts : Result ℕ (Refused Absent) → Option Rec → List Record → List Record → Type 0
Puts (Ok next) defined old new = Put defined old new
Puts (Err (Fault absent)) defined old new = defined ≡ None
Puts (Err NoMemory) defined old new = Unit {0}
