-- Integers are judged by the number of their bytes.
use Rattle.std.proofs.Common.{◌≡◌, refl, ℕ, zero, suc, ◌*◌, ◌/◌, ◌<◌, ◌≤◌, ◌↔◌, Bool, true, false, nat_lt, is_ok, List, length, drop, Ok, Err, arith}
use Rattle.std.proofs.Math.Nat.{le-div_iff_mul-le, div-lt_iff_lt-mul}
use Rattle.std.proofs.lemmas.Bool.Decides.{nat_tests}
use Rattle.std.proofs.lemmas.List.{length-drop}
use Rattle.exact_num.specs.Unscaled.{little_integer}
use Rattle.vs_bytes.specs.declared.leaf_columns.Cell.TheVariants as cell
use Rattle.vs_bytes.specs.declared.rule.Rule.TheVariants.{PlainShort}
use Rattle.plain_values.specs.Plain.{integer, cells}
use Rattle.pages.proofs.Judged.{with_first, after_first}

module _ (size : ℕ) where
  there : (bytes : List ℕ) → size ≤ length bytes → integer size bytes ≡ Ok (cell.Num (little_integer bytes 0 size), size)
  unfolding integer
  there bytes fits = let is : nat_lt (length bytes) size ≡ false = grind (arith, nat_tests) in rw is refl

  absent : (bytes : List ℕ) → length bytes < size → integer size bytes ≡ Err PlainShort
  unfolding integer
  absent bytes short = let is : nat_lt (length bytes) size ≡ true = grind (arith, nat_tests) in rw is refl

  good : (count : ℕ) (bytes : List ℕ) → count * size ≤ length bytes → is_ok (cells (integer size) count bytes) ≡ true
  good zero bytes fits = refl
  good (suc n) bytes fits =
      let left = length-drop size bytes in
      rw (there bytes (omega (arith, fits))) (with_first (cell.Num (little_integer bytes 0 size)) (cells (integer size) n (drop size bytes)) (good n (drop size bytes) (omega (arith, fits, left))))

  bad : (count : ℕ) (bytes : List ℕ) → length bytes < count * size → cells (integer size) count bytes ≡ Err PlainShort
  bad zero bytes short = absurd (omega (arith, short))
  bad (suc n) bytes short = by (nat_lt (length bytes) size) refl (λ rest less. bad n rest less)
    where
      by : (b : Bool) → nat_lt (length bytes) size ≡ b → ((rest : List ℕ) → length rest < n * size → cells (integer size) n rest ≡ Err PlainShort) → cells (integer size) (suc n) bytes ≡ Err PlainShort
      by true is later = let less : length bytes < size = grind (arith, nat_tests) in rw (absent bytes less) refl
      by false is later =
          let enough : size ≤ length bytes = grind (arith, nat_tests) in
          let left = length-drop size bytes in
          rw (there bytes enough) (after_first (cell.Num (little_integer bytes 0 size)) (cells (integer size) n (drop size bytes)) PlainShort (later (drop size bytes) (omega (arith, short, left, enough))))

pub all_there : (size count : ℕ) (bytes : List ℕ) → 1 ≤ size → count ≤ length bytes / size → is_ok (cells (integer size) count bytes) ≡ true
all_there size count bytes some fits =
    let same : (count ≤ length bytes / size) ↔ (count * size ≤ length bytes) = le-div_iff_mul-le (omega (arith, some)) in
    good size count bytes (same.0 fits)

pub some_absent : (size count : ℕ) (bytes : List ℕ) → 1 ≤ size → length bytes / size < count → cells (integer size) count bytes ≡ Err PlainShort
some_absent size count bytes some short =
    let same : (length bytes / size < count) ↔ (length bytes < count * size) = div-lt_iff_lt-mul (omega (arith, some)) in
    bad size count bytes (same.0 short)
