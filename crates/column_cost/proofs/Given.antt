-- What the calls ask of the values here.
use Rattle.std.proofs.Common.{◌≡◌, ℕ, zero, suc, ◌+◌, ◌*◌, ◌^◌, ◌<◌, ◌≤◌, ℤ, pos, List, [], ◌∷◌, ◌++◌, slice_index, Some, arith, lit<}
use Rattle.std.specs.List.{All, AllByRecursion}
use Rattle.std.specs.Str.{IsAscii}
use Rattle.std.proofs.lemmas.List.Elements.{All-append, All-from_recursion, recursion_from_All}
use Rattle.std.proofs.lemmas.List.Sums.{sum_by_push}
use Rattle.std.proofs.lemmas.Str.{IsUtf8-from_ascii}
use Rattle.exact_num.specs.Unscaled.{half}
use Rattle.vs_bytes.specs.declared.leaf_columns.Cell.{Cell}
use Rattle.vs_bytes.specs.declared.leaf_columns.Cell.TheVariants as cell
use Rattle.vs_bytes.specs.declared.leaf_columns.Entry.{Entry}
use Rattle.vs_bytes.specs.declared.leaf_columns.Leaf.{Leaf}
use Rattle.vs_bytes.specs.declared.leaf_columns.Phys.{Phys}
use Rattle.vs_bytes.specs.declared.leaf_columns.Phys.TheVariants as phys
use Rattle.vs_bytes.specs.declared.leaf_columns.PrimKind.TheVariants as prim
use Rattle.plain_values.specs.Written.{IsCell}
use Rattle.pages.specs.Entries.{IsEntry}
use Rattle.pages.specs.Written.{weight, weights}
use Rattle.column_cost.specs.Columns.{integers}

more : {X : Type 0} (P : X → Type 0) (xs : List X) (x : X) → All P xs → P x → All P (xs ++ x ∷ [])
more P xs x are is = All-append P xs (x ∷ []) are (All-from_recursion P (x ∷ []) (is, tt))

-- levels

pub level_more : (ns ms : List ℕ) (n : ℕ) → ms ≡ ns ++ n ∷ [] → All (λ level. level < 4) ns → n < 4 → All (λ level. level < 4) ms
level_more ns ms n is are small = rw is (more (λ level. level < 4) ns n are small)

each_below : (m : ℕ) → 0 < m → (ns : List ℕ) → AllByRecursion (λ n. n < m) ns → (k : ℕ) → slice_index ns k < m
each_below m some [] are k = some
each_below m some (n ∷ ns) are zero = are.0
each_below m some (n ∷ ns) are (suc k) = each_below m some ns are.1 k

pub levels_fit : (ns : List ℕ) → All (λ level. level < 4) ns → (k : ℕ) → slice_index ns k < 2 ^ 2
levels_fit ns are k = each_below 4 (lit< tt) ns (recursion_from_All (λ level. level < 4) ns are) k

-- cells

pub fits : (n : ℕ) → n < 1000000 → n < half 8
unfolding half
fits n small = omega (arith, small)

pub integer_more : (cs ds : List Cell) (n : ℕ) → ds ≡ cs ++ cell.Num (pos n) ∷ [] → All (IsCell phys.Int64 prim.Int64) cs → n < 1000000 → All (IsCell phys.Int64 prim.Int64) ds
integer_more cs ds n is are small = rw is (more (IsCell phys.Int64 prim.Int64) cs (cell.Num (pos n)) are (fits n small))

abbrev letters : List ℕ
letters = 97 ∷ (98 ∷ (99 ∷ (100 ∷ (101 ∷ (102 ∷ (103 ∷ (104 ∷ (105 ∷ (106 ∷ [])))))))))

letters_ascii : IsAscii letters
letters_ascii = each_below 128 (lit< tt) letters (lit< tt, (lit< tt, (lit< tt, (lit< tt, (lit< tt, (lit< tt, (lit< tt, (lit< tt, (lit< tt, (lit< tt, tt))))))))))

letters_are : (bytes : List ℕ) → bytes ≡ letters → IsCell phys.ByteArray prim.Text (cell.Bytes bytes)
letters_are bytes is = rw is (lit< tt, IsUtf8-from_ascii letters letters_ascii)

pub text_more : (cs ds : List Cell) (bytes : List ℕ) → ds ≡ cs ++ cell.Bytes bytes ∷ [] → bytes ≡ letters → All (IsCell phys.ByteArray prim.Text) cs → All (IsCell phys.ByteArray prim.Text) ds
text_more cs ds bytes is text are = rw is (more (IsCell phys.ByteArray prim.Text) cs (cell.Bytes bytes) are (letters_are bytes text))

-- entries

pub entry_fits : (z : ℤ) (n : ℕ) → z ≡ pos n → n < 1000000 → IsEntry integers (record { rep = 0; def = 1; value = Some (cell.Num z) })
entry_fits z n is small = rw is (record { rep = omega arith; def = omega arith; value = fits n small })

pub entry_more : (leaf : Leaf) (es fs : List Entry) (e : Entry) → fs ≡ es ++ e ∷ [] → All (IsEntry leaf) es → IsEntry leaf e → All (IsEntry leaf) fs
entry_more leaf es fs e is are one = rw is (more (IsEntry leaf) es e are one)

pub weight_more : (type : Phys) (es fs : List Entry) (e : Entry) (i : ℕ) → fs ≡ es ++ e ∷ [] → weights type es ≤ 12 * i → weight type e ≤ 12 → weights type fs ≤ 12 * (i + 1)
weight_more type es fs e i is before one =
    let sum : weights type fs ≡ weights type es + weight type e = rw is (sum_by_push (weight type) es e) in
    omega (arith, before, one, sum)
