-- Levels that are written read back.
use Rattle.std.proofs.Common.{◌≡◌, ◌==◌, ◌∙◌, refl, sym, ap, subst, ℕ, zero, suc, ◌+◌, ◌*◌, ◌^◌, ◌<◌, ◌≤◌, nat_lt, false, List, [], ◌∷◌, ◌++◌, length, take, drop, slice_index, replicate, Ok, append_assoc, append-nil, arith}
use Rattle.std.specs.List.{AllByRecursion, list_any}
use Rattle.std.specs.Int.Count.{count_leading_zeros}
use Rattle.std.proofs.Math.Seq.{drop-append_seam, take-append_seam}
use Rattle.std.proofs.lemmas.Bool.{le-ltb}
use Rattle.std.proofs.lemmas.Bool.Decides.{nat_tests}
use Rattle.std.proofs.lemmas.List.{length-append}
use Rattle.std.proofs.lemmas.Nat.{leading_length}
use Rattle.byteorder.specs.Endian.{little_number}
use Rattle.byteorder.specs.Numbers.{little_number-reads_back, length-bytes_low_first}
use Rattle.vs_bytes.specs.Numbers.{number, number_bytes, part}
use Rattle.hybrid_levels.specs.Hybrid.{decoded}
use Rattle.hybrid_levels.specs.Written.{encoded}
use Rattle.hybrid_levels.proofs.ReadBack.{numbers_back}
use Rattle.pages.specs.Levels.{level_width, prefixed, stored, levels_of}
use Rattle.pages.specs.Written.{prefix_written, levels_written}

-- The prefix.

module _ (body more : List ℕ) (fits : length body < 256 ^ 4) where
  four : length (number_bytes 4 (length body)) ≡ 4
  four = length-bytes_low_first 0 4 (length body)

  all : (number_bytes 4 (length body) ++ body) ++ more ≡ number_bytes 4 (length body) ++ (body ++ more)
  all = append_assoc (number_bytes 4 (length body)) body more

  total : length ((number_bytes 4 (length body) ++ body) ++ more) ≡ 4 + length body + length more
  total =
      let outer = length-append (number_bytes 4 (length body) ++ body) more in
      let inner = length-append (number_bytes 4 (length body)) body in
      let own = four in
      omega (arith, outer, inner, own)

  number_is : number ((number_bytes 4 (length body) ++ body) ++ more) 0 4 ≡ length body
  number_is = ap (λ (xs : List ℕ). little_number 4 xs) all ∙ little_number-reads_back 4 (length body) (body ++ more) fits

  body_is : part ((number_bytes 4 (length body) ++ body) ++ more) 4 (length body) ≡ body
  body_is =
      ap (λ (xs : List ℕ). take (length body) (drop 4 xs)) all
      ∙ ap (λ (k : ℕ). take (length body) (drop k (number_bytes 4 (length body) ++ (body ++ more)))) (sym four)
      ∙ ap (take (length body)) (drop-append_seam (number_bytes 4 (length body)) (body ++ more))
      ∙ take-append_seam body more

  pub prefix_back : prefixed (prefix_written body ++ more) ≡ Ok (body, 4 + length body)
  unfolding prefixed prefix_written
  prefix_back =
      let size = total in
      let short : nat_lt (length ((number_bytes 4 (length body) ++ body) ++ more)) 4 ≡ false = le-ltb _ 4 (omega (arith, size)) in
      let there : nat_lt (length ((number_bytes 4 (length body) ++ body) ++ more)) (4 + length body) ≡ false = le-ltb _ (4 + length body) (omega (arith, size)) in
      rw (number_is, short, there, body_is) refl

-- Levels up to the maximum.

pub level_fits : (maximum n : ℕ) → maximum < 65536 → n ≤ maximum → n < 2 ^ level_width maximum
level_fits maximum n small most = by (leading_length 16 maximum small)
  where
    by : (m : ℕ) × (count_leading_zeros 16 maximum + m ≡ 16) × (maximum < 2 ^ m) × (2 ^ m ≤ 2 * maximum + 1) → n < 2 ^ level_width maximum
    by t =
        let sum = t.1 in
        let less = t.2 in
        let bits : level_width maximum ≡ t.0 = omega (arith, sum) in
        subst (λ (k : ℕ). n < 2 ^ k) (sym bits) (omega (arith, less, most))

pub none_above : (maximum : ℕ) (levels : List ℕ) → AllByRecursion (λ level. level ≤ maximum) levels → list_any (λ level. nat_lt maximum level) levels ≡ false
none_above maximum [] most = refl
none_above maximum (level ∷ levels) most =
    let first : nat_lt maximum level ≡ false = le-ltb maximum level most.0 in
    rw first (none_above maximum levels most.1)

pub each_fits : (maximum : ℕ) (levels : List ℕ) → maximum < 65536 → AllByRecursion (λ level. level ≤ maximum) levels → (k : ℕ) → slice_index levels k < 2 ^ level_width maximum
each_fits maximum [] small most k = level_fits maximum 0 small (omega arith)
each_fits maximum (level ∷ levels) small most zero = level_fits maximum level small most.0
each_fits maximum (level ∷ levels) small most (suc k) = each_fits maximum levels small most.1 k

pub all_zero : (levels : List ℕ) → AllByRecursion (λ level. level ≤ 0) levels → levels ≡ replicate (length levels) 0
all_zero [] most = refl
all_zero (level ∷ levels) most =
    let none : level ≡ 0 = omega (arith, most.0) in
    ap (λ (n : ℕ). n ∷ levels) none ∙ ap (λ (ns : List ℕ). 0 ∷ ns) (all_zero levels most.1)

stored_back : (maximum : ℕ) (levels : List ℕ) → maximum < 65536 → AllByRecursion (λ level. level ≤ maximum) levels → length levels < 2 ^ 31 →
    stored maximum (length levels) (encoded (level_width maximum) levels) ≡ Ok levels
unfolding stored
stored_back maximum levels small most few =
    let gave = numbers_back (level_width maximum) levels [] (each_fits maximum levels small most) few in
    let back : decoded (level_width maximum) (length levels) (encoded (level_width maximum) levels) ≡ Ok (levels, length (encoded (level_width maximum) levels)) =
    ap (decoded (level_width maximum) (length levels)) (sym (append-nil (encoded (level_width maximum) levels))) ∙ gave in
    rw (back, none_above maximum levels most) refl

prefix_len : (body : List ℕ) → length (prefix_written body) ≡ 4 + length body
unfolding prefix_written
prefix_len body =
    let parts = length-append (number_bytes 4 (length body)) body in
    let own = length-bytes_low_first 0 4 (length body) in
    omega (arith, parts, own)

pub levels_back : (maximum : ℕ) (levels more : List ℕ) → maximum < 65536 → AllByRecursion (λ level. level ≤ maximum) levels → length levels < 2 ^ 31 → length (encoded (level_width maximum) levels) < 256 ^ 4 →
    levels_of maximum (length levels) (levels_written maximum levels ++ more) ≡ Ok (levels, length (levels_written maximum levels))
unfolding levels_of levels_written
levels_back zero levels more small most few fits = ap (λ (ns : List ℕ). Ok (ns, 0)) (sym (all_zero levels most))
levels_back (suc m) levels more small most few fits =
    let bytes = encoded (level_width (suc m)) levels in
    let some : (suc m == 0) ≡ false = grind (arith, nat_tests) in
    rw (some, prefix_back bytes more fits, stored_back (suc m) levels small most few, prefix_len bytes) refl
