-- A file that ends with its footer is opened.
use Rattle.std.proofs.Common.{◌≡◌, ◌∙◌, refl, sym, ap, ℕ, ◌+◌, ◌-◌, ◌^◌, ◌<◌, ◌≤◌, Bool, true, false, not, ◌&&◌, ◌||◌, cond, List, [], ◌++◌, length, take, Result, Ok, Err, arith}
use Rattle.std.specs.Prelude.{nat_lt, bytes_eq}
use Rattle.std.proofs.Math.Seq.{drop-append_seam, take-append_seam}
use Rattle.std.proofs.lemmas.Bool.{le-ltb}
use Rattle.std.proofs.lemmas.List.{append_assoc, append-nil, length-append}
use Rattle.byteorder.specs.Numbers.{little_number-reads_back, length-bytes_low_first}
use Rattle.vs_bytes.specs.Numbers.{number, number_bytes, part}
use Rattle.vs_bytes.specs.Outcome.{◌>>=◌}
use Rattle.vs_bytes.specs.declared.rule.Rule.{Rule}
use Rattle.vs_bytes.specs.declared.rule.Rule.TheVariants as rule
use Rattle.footer_structs.specs.ReadFooters.{footer}
use Rattle.footer_structs.specs.declared.file_metadata.FileMeta.{FileMeta}
use Rattle.footer_structs.specs.FileEnds.{magic, footer_limit}
use Rattle.closed_groups.specs.ClosedGroups.{ending_of}
use Rattle.thrift_footer.specs.Opening.{least_len, tail_len, footer_size, size_in, begin_of, opened, opening}

part_between : (front piece rest : List ℕ) → part (front ++ (piece ++ rest)) (length front) (length piece) ≡ piece
part_between front piece rest = ap (take (length piece)) (drop-append_seam front (piece ++ rest)) ∙ take-append_seam piece rest

pub part_at : (whole front piece rest : List ℕ) (at len : ℕ) → whole ≡ front ++ (piece ++ rest) → at ≡ length front → len ≡ length piece → part whole at len ≡ piece
part_at whole front piece rest at len is place size =
    ap (λ (xs : List ℕ). part xs at len) is ∙ (ap (λ (p : ℕ). part (front ++ (piece ++ rest)) p len) place ∙ (ap (part (front ++ (piece ++ rest)) (length front)) size ∙ part_between front piece rest))

same_bytes : bytes_eq magic magic ≡ true
same_bytes = refl

-- the length in front of the magic number
abbrev tail_of : ℕ → List ℕ
tail_of n = number_bytes 4 n ++ magic

four : (n : ℕ) → length (number_bytes 4 n) ≡ 4
four n = length-bytes_low_first 0 4 n

size_back : (n : ℕ) → n < 2 ^ 32 → number (tail_of n) 0 4 ≡ n
size_back n fits = little_number-reads_back 4 n magic (omega (arith, fits))

magic_back : (n : ℕ) → part (tail_of n) 4 4 ≡ magic
magic_back n = part_at (tail_of n) (number_bytes 4 n) magic [] 4 4 (ap (λ (xs : List ℕ). number_bytes 4 n ++ xs) (sym (append-nil magic))) (sym (four n)) refl

either_not : (a b : Bool) → a ≡ false → b ≡ false → (a || b) ≡ false
either_not a b h k = rw (h, k) refl

size_found : (len n : ℕ) (front tail : List ℕ) → front ≡ magic → tail ≡ tail_of n → n ≤ footer_limit → n + 12 ≤ len → footer_size len front tail ≡ Ok n
unfolding footer_size
size_found len n front tail is ends few inside =
    let back : number tail 0 4 ≡ n = ap (λ (xs : List ℕ). number xs 0 4) ends ∙ size_back n (omega (arith, few)) in
    let whole : bytes_eq front magic && bytes_eq (part tail 4 4) magic ≡ true =
    ap (λ (xs : List ℕ). bytes_eq xs magic && bytes_eq (part tail 4 4) magic) is ∙ (ap (λ (xs : List ℕ). bytes_eq magic magic && bytes_eq (part xs 4 4) magic) ends ∙ ap (λ (xs : List ℕ). bytes_eq magic magic && bytes_eq xs magic) (magic_back n)) in
    let small : (nat_lt footer_limit n || nat_lt (len - least_len) n) ≡ false = either_not (nat_lt footer_limit n) (nat_lt (len - least_len) n) (le-ltb footer_limit n few) (le-ltb (len - least_len) n (omega (arith, inside))) in
    ap (λ b. cond (not b) (Err rule.NotParquet) (cond (nat_lt footer_limit (number tail 0 4) || nat_lt (len - least_len) (number tail 0 4)) (Err rule.FooterLength) (Ok (number tail 0 4)))) whole
    ∙ (ap (λ (m : ℕ). cond (nat_lt footer_limit m || nat_lt (len - least_len) m) (Err rule.FooterLength) (Ok m)) back
    ∙ ap (λ b. cond b (Err rule.FooterLength) (Ok n)) small)

-- the place of the footer
pub end_is : (body foot file : List ℕ) → file ≡ body ++ ending_of foot → begin_of (length file) (length foot) ≡ length body
end_is body foot file is =
    omega (arith, ap length is, length-append body (ending_of foot), length-append foot (tail_of (length foot)), length-append (number_bytes 4 (length foot)) magic, four (length foot))

pub opens : (body rest foot file : List ℕ) (meta : FileMeta) → body ≡ magic ++ rest → file ≡ body ++ ending_of foot → length foot ≤ footer_limit → footer foot ≡ Ok meta → opening file ≡ Ok (opened (length file) (length foot) meta)
unfolding opening size_in
opens body rest foot file meta begins is few read =
    let n : ℕ = length foot in
    let long : length file ≡ length body + (n + 8) = omega (arith, ap length is, length-append body (ending_of foot), length-append foot (tail_of n), length-append (number_bytes 4 n) magic, four n) in
    let front_long : 4 ≤ length body = omega (arith, ap length begins, length-append magic rest) in
    let front : part file 0 4 ≡ magic = part_at file [] magic (rest ++ ending_of foot) 0 4 (is ∙ (ap (λ (xs : List ℕ). xs ++ ending_of foot) begins ∙ append_assoc magic rest (ending_of foot))) refl refl in
    let tail : part file (length file - tail_len) tail_len ≡ tail_of n =
    part_at file (body ++ foot) (tail_of n) [] (length file - tail_len) tail_len
    (is ∙ (sym (append_assoc body foot (tail_of n)) ∙ ap (λ (xs : List ℕ). (body ++ foot) ++ xs) (sym (append-nil (tail_of n)))))
    (omega (arith, long, length-append body foot)) (omega (arith, length-append (number_bytes 4 n) magic, four n)) in
    let size : size_in file ≡ Ok n = ap (λ b. cond b (Err rule.NotParquet) (footer_size (length file) (part file 0 4) (part file (length file - tail_len) tail_len))) (le-ltb (length file) least_len (omega (arith, long, front_long)))
    ∙ size_found (length file) n (part file 0 4) (part file (length file - tail_len) tail_len) front tail few (omega (arith, long, front_long)) in
    let held : part file (begin_of (length file) n) n ≡ foot = part_at file body foot (tail_of n) (begin_of (length file) n) n is (end_is body foot file is) refl in
    ap (λ (found : Result ℕ Rule). found >>= λ size. footer (part file (begin_of (length file) size) size) >>= λ m. Ok (opened (length file) size m)) size
    ∙ (ap (λ (xs : List ℕ). footer xs >>= λ m. Ok (opened (length file) n m)) held
    ∙ ap (λ (found : Result FileMeta Rule). found >>= λ m. Ok (opened (length file) n m)) read)
