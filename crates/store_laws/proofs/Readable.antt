-- A chunk that is written has a range that no rule refuses.
use Rattle.std.proofs.Common.{◌≡◌, ◌∙◌, refl, ap, ℕ, zero, suc, ◌+◌, ◌<◌, ◌≤◌, Bool, true, false, not, cond, List, [], ◌∷◌, ◌++◌, length, get_or, Result, Ok, Err, arith}
use Rattle.std.specs.List.{AllByRecursion}
use Rattle.std.proofs.lemmas.Bool.{le-ltb}
use Rattle.std.proofs.lemmas.Bool.Decides.{nat_tests}
use Rattle.vs_bytes.specs.declared.leaf_columns.Entry.{Entry}
use Rattle.vs_bytes.specs.declared.leaf_columns.Leaf.{Leaf}
use Rattle.vs_bytes.specs.declared.leaf_columns.Phys.{Phys}
use Rattle.vs_bytes.specs.declared.leaf_columns.Phys.TheVariants as phys
use Rattle.vs_bytes.specs.declared.leaf_columns.PrimKind.{PrimKind}
use Rattle.vs_bytes.specs.declared.leaf_columns.PrimKind.TheVariants as prim
use Rattle.vs_bytes.specs.declared.rule.Rule.{Rule}
use Rattle.vs_bytes.specs.declared.rule.Rule.TheVariants as rule
use Rattle.thrift_structs.specs.ChunkRanges.{is_type, max_size, magic_bytes, is_inside, pages_range, unless_refused, column_range, chunk_range}
use Rattle.shred_schema.specs.Groups.{Group, group, Kind, free, scalar, object_of, list_of, Groups, no_groups, field}
use Rattle.shred_schema.specs.Lawful.{HasValue, IsWritten, AllWritten, EachIn, EachField}
use Rattle.shred_schema.specs.Leaves.{value_leaves, leaves_of, kind_leaves, groups_leaves, top_level, column_leaves}
use Rattle.shred_schema.specs.declared.nodes.Slot.{Slot}
use Rattle.shred_schema.specs.declared.nodes.Slot.TheVariants.{Absent, Required, Optional}
use Rattle.group_writing.specs.GroupChunks.{Path, type_number, column_meta, chunk_meta}

-- Leaves of kinds that are read.

abbrev IsReadKind : PrimKind → Type 0
IsReadKind (prim.Refused why) = ⊥
IsReadKind q = Unit {0}

abbrev pub IsReadLeaf : Leaf → Type 0
IsReadLeaf l = IsReadKind l.prim

kind_read : (q : PrimKind) → IsWritten q → IsReadKind q
kind_read prim.Raw h = tt
kind_read prim.Boolean h = tt
kind_read prim.Int8 h = tt
kind_read prim.Int16 h = tt
kind_read prim.Int32 h = tt
kind_read prim.Int64 h = tt
kind_read (prim.Decimal p s) h = tt
kind_read prim.Text h = tt
kind_read (prim.Refused why) h = absurd h

all_both : {A : Type 0} (P : A → Type 0) (xs ys : List A) → AllByRecursion P xs → AllByRecursion P ys → AllByRecursion P (xs ++ ys)
all_both P [] ys a b = b
all_both P (x ∷ xs) ys a b = (a.0, all_both P xs ys a.1 b)

value_read : (s : Slot) (r d : ℕ) → AllByRecursion IsReadLeaf (value_leaves s r d)
value_read Absent r d = tt
value_read Required r d = (tt, tt)
value_read Optional r d = (tt, tt)

mutual
  all_read : (n : Group) (r d : ℕ) → AllWritten n → AllByRecursion IsReadLeaf (leaves_of n r d)
  all_read (group s t) r d h = all_both IsReadLeaf (value_leaves s r d) (kind_leaves t r d) (value_read s r d) (all_in_kind t r d h.1)

  all_in_kind : (t : Kind) (r d : ℕ) → EachIn HasValue IsWritten t → AllByRecursion IsReadLeaf (kind_leaves t r d)
  all_in_kind free r d h = tt
  all_in_kind (scalar q) r d h = (kind_read q h, tt)
  all_in_kind (object_of gs) r d h = all_in_fields gs r (d + 1) h.1
  all_in_kind (list_of n) r d h = all_read n (r + 1) (d + 2) h

  all_in_fields : (gs : Groups) (r d : ℕ) → EachField HasValue IsWritten gs → AllByRecursion IsReadLeaf (groups_leaves gs r d)
  all_in_fields no_groups r d h = tt
  all_in_fields (field name n gs) r d h = all_both IsReadLeaf (leaves_of n r d) (groups_leaves gs r d) (all_read n r d h.0) (all_in_fields gs r d h.1)

pub all_at : {A : Type 0} (P : A → Type 0) (xs : List A) (i : ℕ) (other : A) → AllByRecursion P xs → i < length xs → P (get_or xs i other)
all_at P [] i other all inside = absurd (omega (arith, inside))
all_at P (x ∷ xs) zero other all inside = all.0
all_at P (x ∷ xs) (suc i) other all inside = all_at P xs i other all.1 (omega (arith, inside))

pub leaf_is_read : (optional : Bool) (n : Group) (j : ℕ) (other : Leaf) → AllWritten n → j < length (column_leaves optional n) → IsReadLeaf (get_or (column_leaves optional n) j other)
leaf_is_read optional n j other written inside = all_at IsReadLeaf (column_leaves optional n) j other (tt, all_read n 0 (top_level optional) written) inside

-- The range.

type_is : (t : Phys) → is_type t (type_number t) ≡ true
unfolding is_type
type_is phys.Boolean = refl
type_is phys.Int32 = refl
type_is phys.Int64 = refl
type_is phys.Float = refl
type_is phys.Double = refl
type_is phys.ByteArray = refl
type_is (phys.Fixed size) = refl
type_is phys.Other = refl

not_refused : {A : Type 0} (q : PrimKind) (result : Result A Rule) → IsReadKind q → unless_refused q result ≡ result
not_refused prim.Raw result h = refl
not_refused prim.Boolean result h = refl
not_refused prim.Int8 result h = refl
not_refused prim.Int16 result h = refl
not_refused prim.Int32 result h = refl
not_refused prim.Int64 result h = refl
not_refused (prim.Decimal p s) result h = refl
not_refused prim.Text result h = refl
not_refused (prim.Refused why) result h = absurd h

inside : (end at size : ℕ) → magic_bytes ≤ at → at + size ≤ end → is_inside end at size ≡ true
unfolding is_inside
inside end at size low high = grind (arith, nat_tests)

pages_are : (end : ℕ) (l : Leaf) (path : Path) (at size : ℕ) (es : List Entry) → magic_bytes ≤ at → at + size ≤ end → size ≤ max_size → pages_range false end (column_meta l path at size es) ≡ Ok (at, size)
unfolding pages_range
pages_are end l path at size es low high small = rw (le-ltb max_size size small, inside end at size low high) refl

pub range_is : (end : ℕ) (l : Leaf) (path : Path) (at size : ℕ) (es : List Entry) → IsReadLeaf l → magic_bytes ≤ at → at + size ≤ end → size ≤ max_size → chunk_range (chunk_meta l path at size es) l end ≡ Ok (at, size)
unfolding chunk_range column_range
range_is end l path at size es read low high small =
    ap (λ b. cond (not b) (Err rule.FooterField) (unless_refused l.prim (pages_range false end (column_meta l path at size es)))) (type_is l.phys)
    ∙ (not_refused l.prim (pages_range false end (column_meta l path at size es)) read ∙ pages_are end l path at size es low high small)
