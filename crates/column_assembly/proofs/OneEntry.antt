-- Items of one entry, and rows that are whole.
use Rattle.std.proofs.Common.{◌≡◌, IfSome, refl, ap, sym, ◌∙◌, ℤ, ℕ, ◌+◌, nat_lt, Bool, true, false, cond, Option, Some, None, is_some, List, [], ◌∷◌, ◌≤◌, length, drop, drop-drop, slice_set, arith}
use Rattle.std.proofs.lemmas.List.{drop-set-lt}
use Rattle.std.specs.Option.{option_map}
use Rattle.vs_bytes.specs.declared.leaf_columns.Cell.{Cell}
use Rattle.vs_bytes.specs.declared.leaf_columns.Cell.TheVariants as leaf_cell
use Rattle.vs_bytes.specs.declared.leaf_columns.Entry.{Entry}
use Rattle.vs_bytes.specs.declared.leaf_columns.PrimKind.{PrimKind}
use Rattle.shred_schema.specs.Cells.{is_of_prim}
use Rattle.record_assembly.specs.Cuts.{until, beyond, first_item, later_items}
use Rattle.record_assembly.specs.Reading.{is_null, only_cell}
use Rattle.column_assembly.specs.Items.{is_one, cell_of, first_value, number_in, is_no_value}

-- where nothing goes on the item, the entry after it begins the next one
stops : (m : ℕ) (es : List Entry) → until m es ≡ [] → beyond m es ≡ es
stops m [] h = refl
stops m (e ∷ es) h = by (nat_lt m e.rep) h
  where
    by : (b : Bool) → cond b (e ∷ until m es) [] ≡ [] → cond b (beyond m es) (e ∷ es) ≡ e ∷ es
    by true h = absurd cc
    by false h = refl

pub one_later : (r d m : ℕ) (es : List Entry) → is_one r d (first_item m es) ≡ true → later_items m es ≡ drop 1 es
one_later r d m [] h = refl
one_later r d m (e ∷ es) h = by (until m es) refl h
  where
    by : (xs : List Entry) → until m es ≡ xs → is_one r d (e ∷ xs) ≡ true → beyond m es ≡ es
    by [] is h = stops m es is
    by (x ∷ xs) is h = absurd cc

pub null_is_one : (r d m : ℕ) (es : List Entry) → is_null r d (first_item m es) ≡ true → later_items m es ≡ drop 1 es
null_is_one r d m [] h = refl
null_is_one r d m (e ∷ es) h = by (until m es) refl h
  where
    by : (xs : List Entry) → until m es ≡ xs → is_null r d (e ∷ xs) ≡ true → beyond m es ≡ es
    by [] is h = stops m es is
    by (x ∷ xs) is h = absurd cc

pub one_cell : (r d m : ℕ) (e : Entry) (es : List Entry) → is_one r d (first_item m (e ∷ es)) ≡ true → only_cell r d (first_item m (e ∷ es)) ≡ e.value
one_cell r d m e es h = by (until m es) h
  where
    by : (xs : List Entry) → is_one r d (e ∷ xs) ≡ true → only_cell r d (e ∷ xs) ≡ e.value
    by [] h = rw h refl
    by (x ∷ xs) h = absurd cc

pub no_cell : (r d m : ℕ) (es : List Entry) → is_one r d (first_item m es) ≡ false → only_cell r d (first_item m es) ≡ None
no_cell r d m [] h = refl
no_cell r d m (e ∷ es) h = by (until m es) h
  where
    by : (xs : List Entry) → is_one r d (e ∷ xs) ≡ false → only_cell r d (e ∷ xs) ≡ None
    by [] h = rw h refl
    by (x ∷ xs) h = refl

drop_one : {A : Type 0} (at : ℕ) (xs : List A) → drop 1 (drop at xs) ≡ drop (at + 1) xs
drop_one at xs = drop-drop 1 at xs

pub null_passed : (r d m at : ℕ) (es : List Entry) → is_null r d (first_item m (drop at es)) ≡ true → drop (at + 1) es ≡ later_items m (drop at es)
null_passed r d m at es h = sym (null_is_one r d m (drop at es) h ∙ drop_one at es)

pub one_passed : (r d m at : ℕ) (es : List Entry) → is_one r d (first_item m (drop at es)) ≡ true → drop (at + 1) es ≡ later_items m (drop at es)
one_passed r d m at es h = sym (one_later r d m (drop at es) h ∙ drop_one at es)

pub if_some : {A : Type 0} (o : Option A) (P : Type 0) → P → IfSome o (λ _. P)
if_some None P p = tt
if_some (Some a) P p = p

pub taken_passed : (r d m at : ℕ) (es left now : List Entry) (x : Entry) → drop at es ≡ now → left ≡ now → true ≡ is_one r d (first_item m left) → drop (at + 1) (slice_set es at x) ≡ later_items m now
taken_passed r d m at es left now x is same h = drop-set-lt (at + 1) es at x (omega arith) ∙ (one_passed r d m at es (ap (λ ys. is_one r d (first_item m ys)) (is ∙ sym same) ∙ sym h) ∙ ap (later_items m) is)

-- ---- a cell of a kind

pub one_value : (r d m : ℕ) (es : List Entry) → is_one r d (first_item m es) ≡ true → only_cell r d (first_item m es) ≡ first_value es
one_value r d m [] h = refl
one_value r d m (e ∷ es) h = one_cell r d m e es h

-- what is taken is such a cell where there is one
pub suited : (q : PrimKind) (o : Option Cell) → is_some (cell_of q o) ≡ true → o ≡ cell_of q o
suited q None h = cc
suited q (Some c) h = by (is_of_prim q c) h
  where
    by : (b : Bool) → is_some (cond b (Some c) None) ≡ true → Some c ≡ cond b (Some c) None
    by true h = refl
    by false h = cc

pub not_suited : (q : PrimKind) (o : Option Cell) → is_some (cell_of q o) ≡ false → cell_of q o ≡ None
not_suited q o h = none (cell_of q o) h
  where
    none : (p : Option Cell) → is_some p ≡ false → p ≡ None
    none None h = refl
    none (Some c) h = cc

-- a number that is taken
pub number_back : (n : ℤ) (o : Option Cell) → Some n ≡ number_in o → o ≡ Some (leaf_cell.Num n)
number_back n None h = cc
number_back n (Some (leaf_cell.Bool b)) h = cc
number_back n (Some (leaf_cell.Num x)) h = let same : n ≡ x = cc in ap (λ (y : ℤ). Some (leaf_cell.Num y)) (sym same)
number_back n (Some (leaf_cell.Bytes bytes)) h = cc

number_one : (q : PrimKind) (r d m : ℕ) (n : ℤ) (es : List Entry) → Some n ≡ number_in (cell_of q (only_cell r d (first_item m es))) → is_one r d (first_item m es) ≡ true
number_one q r d m n es h = by (is_one r d (first_item m es)) refl
  where
    by : (b : Bool) → is_one r d (first_item m es) ≡ b → b ≡ true
    by true one = refl
    by false one = let no : Some n ≡ None = h ∙ ap (λ o. number_in (cell_of q o)) (no_cell r d m es one) in cc

pub number_there : (q : PrimKind) (r d m : ℕ) (n : ℤ) (es : List Entry) → Some n ≡ number_in (cell_of q (only_cell r d (first_item m es))) → 1 ≤ length es
number_there q r d m n [] h = cc
number_there q r d m n (e ∷ es) h = omega arith

pub number_passed : (q : PrimKind) (r d m at : ℕ) (n : ℤ) (es now : List Entry) → drop at es ≡ now → Some n ≡ number_in (cell_of q (only_cell r d (first_item m now))) → drop (at + 1) es ≡ later_items m now
number_passed q r d m at n es now is h = one_passed r d m at es (ap (λ ys. is_one r d (first_item m ys)) is ∙ number_one q r d m n now h) ∙ ap (later_items m) is

-- that there is no value
pub no_value : (o : Option (Option (List ℕ))) → true ≡ is_no_value o → o ≡ Some None
no_value None h = cc
no_value (Some None) h = refl
no_value (Some (Some bytes)) h = cc

pub some_value : (o : Option (List ℕ)) → is_no_value (option_map Some o) ≡ false
some_value None = refl
some_value (Some bytes) = refl
