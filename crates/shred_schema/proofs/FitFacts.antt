-- What fits a kind of cells comes back from its cell.
use Rattle.std.proofs.Common.{◌≡◌, ◌∙◌, sym, ap, ap₂, subst, refl, ℕ, ◌^◌, ◌%◌, ◌==◌, ◌≤◌, ◌<◌, nat_le, nat_lt, cond, Bool, true, false, ◌&&◌, ◌⊎◌, inl, inr, ⊎_elim, ℤ, pos, negsuc, ◌*ℤ◌, int_lt, int_le, unsigned_abs, Option, Some, None, MatchOption, option_map, arith}
use Rattle.std.proofs.lemmas.Bool.{and_parts}
use Rattle.std.proofs.lemmas.Bool.Decides.{nat_tests}
use Rattle.exact_num.specs.Decimal.{Decimal, IsNumber, IsSame, signed, shortened, least, max_digits}
use Rattle.exact_num.specs.Fitting.{IsOver}
use Rattle.exact_num.specs.Unscaled.{reach, half}
use Rattle.exact_num.proofs.Powers.{ten_some, ten_rises}
use Rattle.exact_num.proofs.Scales.{over_less, over_size, over_is}
use Rattle.exact_num.proofs.Shortening.{shortened_is, integer_same}
use Rattle.exact_num.proofs.Signs.{signed_abs, cancel_ℤ}
use Rattle.exact_num.proofs.Uniqueness.{IsLean, unique, same_both}
use Rattle.json_tree.specs.Json as json
use Rattle.json_tree.specs.Json.{Json}
use Rattle.json_tree.specs.Valid.{IsValid}
use Rattle.vs_bytes.specs.declared.leaf_columns.Cell.{Cell}
use Rattle.vs_bytes.specs.declared.leaf_columns.Cell.TheVariants as cell
use Rattle.vs_bytes.specs.declared.leaf_columns.PrimKind.{PrimKind}
use Rattle.vs_bytes.specs.declared.leaf_columns.PrimKind.TheVariants as prim
use Rattle.shred_schema.specs.Cells.{is_of_prim}
use Rattle.shred_schema.specs.Fits.{within, signed_within, raised, over_in, number_cell, fit, places_of, tree_of}
use Rattle.shred_schema.specs.Lawful.{IsWritten}

-- Decimals.

test_le : (a b m n : ℕ) → (nat_le a b && nat_lt m n) ≡ true → a ≤ b
test_le a b m n h = grind (arith, nat_tests)

test_lt : (a b m n : ℕ) → (nat_le a b && nat_lt m n) ≡ true → m < n
test_lt a b m n h = grind (arith, nat_tests)

tests_pass : (a b m n : ℕ) → a ≤ b → m < n → (nat_le a b && nat_lt m n) ≡ true
tests_pass a b m n h k = grind (arith, nat_tests)

le_or_lt : (a b : ℕ) → (a ≤ b) ⊎ (b < a)
le_or_lt a b = by (nat_le a b) refl where
  by : (t : Bool) → nat_le a b ≡ t → (a ≤ b) ⊎ (b < a)
  by true e = inl (grind (arith, nat_tests))
  by false e = inr (grind (arith, nat_tests))

abbrev over : ℕ → ℤ → Decimal
over s u = record { unscaled = u; scale = s }

-- the integer with zeros at its end is the number over a power of ten
raised_over : (p s : ℕ) (d : Decimal) → d.scale ≤ s → raised s d < 10 ^ p → IsOver p s d (signed (int_lt d.unscaled (pos 0)) (raised s d))
raised_over p s d h k = over_is d p s (raised s d) (signed (int_lt d.unscaled (pos 0)) (raised s d)) h refl k refl

-- what is told to be the integer over a power of ten is the one that is computed
pub over_computed : (p s : ℕ) (d : Decimal) (o : Option ℤ) → IsLean d → MatchOption o ((u : ℤ) → IsOver p s d u → ⊥) (IsOver p s d) → o ≡ over_in p s d
over_computed p s d None lean none = by (nat_le d.scale s && nat_lt (raised s d) (10 ^ p)) refl where
  by : (b : Bool) → (nat_le d.scale s && nat_lt (raised s d) (10 ^ p)) ≡ b → None ≡ cond b (Some (signed (int_lt d.unscaled (pos 0)) (raised s d))) None
  by true e = absurd (none (signed (int_lt d.unscaled (pos 0)) (raised s d)) (raised_over p s d (test_le d.scale s (raised s d) (10 ^ p) e) (test_lt d.scale s (raised s d) (10 ^ p) e)))
  by false e = refl
over_computed p s d (Some u) lean is = ⊎_elim told (λ less. absurd (over_less d u s lean less is.same)) (le_or_lt d.scale s) where
  told : d.scale ≤ s → Some u ≡ over_in p s d
  told h =
      let v = signed (int_lt d.unscaled (pos 0)) (raised s d) in
      let size = over_size d p s u h is in
      let small : raised s d < 10 ^ p = omega (arith, size, is.size) in
      let other = raised_over p s d h small in
      let equal : u ≡ v = cancel_ℤ u v (10 ^ d.scale) (ten_some d.scale) (is.same ∙ sym other.same) in
      ap (λ z. Some z) equal ∙ sym (ap (λ b. cond b (Some v) None) (tests_pass d.scale s (raised s d) (10 ^ p) h small))

-- a number comes back from its integer over a power of ten
number_back : (d : Decimal) (u : ℤ) (s : ℕ) → IsNumber d → IsSame (over s u) d → least (int_lt u (pos 0)) (unsigned_abs u) s ≡ d
number_back d u s number same =
    let minus = int_lt u (pos 0) in
    let n = unsigned_abs u in
    let lean : IsLean (least minus n s) = record { lean = λ e. (shortened_is n s).lean (ap (λ (m : ℕ). m % 10) (sym (signed_abs minus (shortened n s).0)) ∙ e) } in
    unique (least minus n s) d lean (record { lean = number.least }) (same_both (least minus n s) d (over s u) (integer_same u s (least minus n s) refl) (sym same))

chosen : {A : Type 0} (b : Bool) (x y : A) → cond b (Some x) None ≡ Some y → (b ≡ true) × (x ≡ y)
chosen true x y e = (refl, cc)
chosen false x y e = cc

over_back : (p s : ℕ) (d : Decimal) (u : ℤ) → IsNumber d → over_in p s d ≡ Some u → least (int_lt u (pos 0)) (unsigned_abs u) s ≡ d
over_back p s d u number e =
    let v = signed (int_lt d.unscaled (pos 0)) (raised s d) in
    let found = chosen (nat_le d.scale s && nat_lt (raised s d) (10 ^ p)) v u e in
    let is = raised_over p s d (test_le d.scale s (raised s d) (10 ^ p) found.0) (test_lt d.scale s (raised s d) (10 ^ p) found.0) in
    number_back d u s number (subst (λ z. IsSame (over s z) d) found.1 is.same)

scale_none : (n : ℕ) (b : Bool) → ((n == 0) && b) ≡ true → n ≡ 0
scale_none n b h = let test = (and_parts (n == 0) b h).0 in grind (arith, nat_tests)

within_back : (low high : ℤ) (d : Decimal) (u : ℤ) → IsNumber d → within low high d ≡ Some u → least (int_lt u (pos 0)) (unsigned_abs u) 0 ≡ d
within_back low high d u number e =
    let found = chosen ((d.scale == 0) && (int_le low d.unscaled && int_le d.unscaled high)) d.unscaled u e in
    let whole = scale_none d.scale (int_le low d.unscaled && int_le d.unscaled high) found.0 in
    number_back d u 0 number (ap₂ (λ z k. z *ℤ pos (10 ^ k)) (sym found.1) whole)

-- Cells of numbers.

pub record IsNumberCell (f : Decimal → Option ℤ) (j : Json) (c : Cell) : Type 0 where
  pub number : Decimal
  pub integer : ℤ
  pub json_is : j ≡ json.number number
  pub fits : f number ≡ Some integer
  pub cell_is : cell.Num integer ≡ c

of_number : (f : Decimal → Option ℤ) (d : Decimal) (c : Cell) (o : Option ℤ) → f d ≡ o → option_map cell.Num o ≡ Some c → IsNumberCell f (json.number d) c
of_number f d c None e h = cc
of_number f d c (Some u) e h = record { number = d; integer = u; json_is = refl; fits = e; cell_is = cc }

pub number_told : (f : Decimal → Option ℤ) (j : Json) (c : Cell) → number_cell f j ≡ Some c → IsNumberCell f j c
number_told f (json.number d) c h = of_number f d c (f d) refl h
number_told f json.null c h = cc
number_told f (json.boolean b) c h = cc
number_told f (json.text s) c h = cc
number_told f (json.array ps) c h = cc
number_told f (json.object fs) c h = cc

number_fits_back : (q : PrimKind) (f : Decimal → Option ℤ) (j : Json) (c : Cell) → ((d : Decimal) (u : ℤ) → IsNumber d → f d ≡ Some u → least (int_lt u (pos 0)) (unsigned_abs u) (places_of q) ≡ d)
    → IsValid j → number_cell f j ≡ Some c → tree_of q c ≡ j
number_fits_back q f j c back valid h =
    let told = number_told f j c h in
    ap (tree_of q) (sym told.cell_is) ∙ ap (λ d. json.number d) (back told.number told.integer (subst IsValid told.json_is valid) told.fits) ∙ sym told.json_is

truth_back : (j : Json) (c : Cell) → fit prim.Boolean j ≡ Some c → tree_of prim.Boolean c ≡ j
truth_back (json.boolean b) c h = let same : cell.Bool b ≡ c = cc in ap (tree_of prim.Boolean) (sym same)
truth_back json.null c h = cc
truth_back (json.number d) c h = cc
truth_back (json.text s) c h = cc
truth_back (json.array ps) c h = cc
truth_back (json.object fs) c h = cc

text_back : (j : Json) (c : Cell) → fit prim.Text j ≡ Some c → tree_of prim.Text c ≡ j
text_back (json.text s) c h = let same : cell.Bytes s ≡ c = cc in ap (tree_of prim.Text) (sym same)
text_back json.null c h = cc
text_back (json.boolean b) c h = cc
text_back (json.number d) c h = cc
text_back (json.array ps) c h = cc
text_back (json.object fs) c h = cc

-- the cell of a value that fits stands for the value
pub fits_back : (q : PrimKind) (j : Json) (c : Cell) → IsValid j → fit q j ≡ Some c → tree_of q c ≡ j
fits_back prim.Raw j c valid h = cc
fits_back prim.Boolean j c valid h = truth_back j c h
fits_back prim.Int8 j c valid h = number_fits_back prim.Int8 (signed_within 8) j c (within_back (negsuc 127) (pos 127)) valid h
fits_back prim.Int16 j c valid h = number_fits_back prim.Int16 (signed_within 16) j c (within_back (negsuc 32767) (pos 32767)) valid h
fits_back prim.Int32 j c valid h = number_fits_back prim.Int32 (signed_within 32) j c (within_back (negsuc 2147483647) (pos 2147483647)) valid h
fits_back prim.Int64 j c valid h = number_fits_back prim.Int64 (signed_within 64) j c (within_back (negsuc 9223372036854775807) (pos 9223372036854775807)) valid h
fits_back (prim.Decimal p s) j c valid h = number_fits_back (prim.Decimal p s) (over_in p s) j c (over_back p s) valid h
fits_back prim.Text j c valid h = text_back j c h
fits_back (prim.Refused why) j c valid h = cc

-- The cell of a value that fits is of the kind.

reach_within : (z : ℤ) (k : ℕ) → int_le (negsuc k) z ≡ true → int_le z (pos k) ≡ true → reach z ≤ k
reach_within (pos n) k g h = grind (arith, nat_tests)
reach_within (negsuc n) k g h = grind (arith, nat_tests)

within_reach : (k : ℕ) (d : Decimal) (u : ℤ) → within (negsuc k) (pos k) d ≡ Some u → reach u ≤ k
within_reach k d u e =
    let found = chosen ((d.scale == 0) && (int_le (negsuc k) d.unscaled && int_le d.unscaled (pos k))) d.unscaled u e in
    let bounds = and_parts (int_le (negsuc k) d.unscaled) (int_le d.unscaled (pos k)) (and_parts (d.scale == 0) (int_le (negsuc k) d.unscaled && int_le d.unscaled (pos k)) found.0).1 in
    subst (λ z. reach z ≤ k) found.1 (reach_within d.unscaled k bounds.0 bounds.1)

lt_test : (a b : ℕ) → a < b → nat_lt a b ≡ true
lt_test a b h = grind (arith, nat_tests)

reaches_4 : (u : ℤ) (k : ℕ) → k < 2147483648 → reach u ≤ k → nat_lt (reach u) (half 4) ≡ true
unfolding half
reaches_4 u k h r = lt_test (reach u) 2147483648 (omega (arith, h, r))

reaches_8 : (u : ℤ) → reach u ≤ 9223372036854775807 → nat_lt (reach u) (half 8) ≡ true
unfolding half
reaches_8 u r = lt_test (reach u) 9223372036854775808 (omega (arith, r))

number_is_cell : (q : PrimKind) (f : Decimal → Option ℤ) (j : Json) (c : Cell) → ((d : Decimal) (u : ℤ) → f d ≡ Some u → is_of_prim q (cell.Num u) ≡ true) → number_cell f j ≡ Some c → is_of_prim q c ≡ true
number_is_cell q f j c passes h =
    let told = number_told f j c h in
    subst (λ x. is_of_prim q x ≡ true) told.cell_is (passes told.number told.integer told.fits)

over_digits : (p s : ℕ) (d : Decimal) (u : ℤ) → p ≤ max_digits → over_in p s d ≡ Some u → nat_lt (unsigned_abs u) (10 ^ max_digits) ≡ true
over_digits p s d u most e =
    let v = signed (int_lt d.unscaled (pos 0)) (raised s d) in
    let found = chosen (nat_le d.scale s && nat_lt (raised s d) (10 ^ p)) v u e in
    let small = test_lt d.scale s (raised s d) (10 ^ p) found.0 in
    let size : unsigned_abs u ≡ raised s d = ap unsigned_abs (sym found.1) ∙ signed_abs (int_lt d.unscaled (pos 0)) (raised s d) in
    let rises = ten_rises p max_digits most in
    lt_test (unsigned_abs u) (10 ^ max_digits) (omega (arith, size, small, rises))

truth_is_cell : (j : Json) (c : Cell) → fit prim.Boolean j ≡ Some c → is_of_prim prim.Boolean c ≡ true
truth_is_cell (json.boolean b) c h = let same : cell.Bool b ≡ c = cc in subst (λ x. is_of_prim prim.Boolean x ≡ true) same refl
truth_is_cell json.null c h = cc
truth_is_cell (json.number d) c h = cc
truth_is_cell (json.text s) c h = cc
truth_is_cell (json.array ps) c h = cc
truth_is_cell (json.object fs) c h = cc

text_is_cell : (j : Json) (c : Cell) → IsValid j → fit prim.Text j ≡ Some c → is_of_prim prim.Text c ≡ true
text_is_cell (json.text s) c valid h = let same : cell.Bytes s ≡ c = cc in subst (λ x. is_of_prim prim.Text x ≡ true) same valid
text_is_cell json.null c valid h = cc
text_is_cell (json.boolean b) c valid h = cc
text_is_cell (json.number d) c valid h = cc
text_is_cell (json.array ps) c valid h = cc
text_is_cell (json.object fs) c valid h = cc

pub fit_is_cell : (q : PrimKind) (j : Json) (c : Cell) → IsWritten q → IsValid j → fit q j ≡ Some c → is_of_prim q c ≡ true
fit_is_cell prim.Raw j c written valid h = cc
fit_is_cell prim.Boolean j c written valid h = truth_is_cell j c h
fit_is_cell prim.Int8 j c written valid h = number_is_cell prim.Int8 (signed_within 8) j c (λ d u e. reaches_4 u 127 (omega arith) (within_reach 127 d u e)) h
fit_is_cell prim.Int16 j c written valid h = number_is_cell prim.Int16 (signed_within 16) j c (λ d u e. reaches_4 u 32767 (omega arith) (within_reach 32767 d u e)) h
fit_is_cell prim.Int32 j c written valid h = number_is_cell prim.Int32 (signed_within 32) j c (λ d u e. reaches_4 u 2147483647 (omega arith) (within_reach 2147483647 d u e)) h
fit_is_cell prim.Int64 j c written valid h = number_is_cell prim.Int64 (signed_within 64) j c (λ d u e. reaches_8 u (within_reach 9223372036854775807 d u e)) h
fit_is_cell (prim.Decimal p s) j c written valid h = number_is_cell (prim.Decimal p s) (over_in p s) j c (λ d u e. over_digits p s d u written.most e) h
fit_is_cell prim.Text j c written valid h = text_is_cell j c valid h
fit_is_cell (prim.Refused why) j c written valid h = cc
