-- Numbers: what is read is a number of the grammar, and is in least scale.
use Rattle.std.proofs.Common.{◌≡◌, ◌∙◌, refl, sym, ap, subst, ℕ, ◌^◌, ◌%◌, ◌<◌, ◌≤◌, nat_lt, nat_le, ◌&&◌, List, Bool, true, false, cond, Option, Some, None, Ok, ok_or, unsigned_abs, arith}
use Rattle.std.proofs.lemmas.Bool.{and_parts}
use Rattle.std.proofs.lemmas.Bool.Decides.{nat_tests}
use Rattle.exact_num.specs.Decimal.{Decimal, IsNumber, shortened, least, numbered}
use Rattle.exact_num.specs.Parsing.{parsed}
use Rattle.exact_num.specs.Reading.{IsRead, read_from, read_of, number_of}
use Rattle.exact_num.specs.Spelling.{Written}
use Rattle.exact_num.specs.declared.fault.NumFault.TheVariants.{TooWide}
use Rattle.exact_num.proofs.Shortening.{shortened_is}
use Rattle.exact_num.proofs.Signs.{signed_abs}
use Rattle.json_grammar.specs.Grammar as texts

admitted : (minus : Bool) (n places : ℕ) (d : Decimal) → numbered minus n places ≡ Some d → IsNumber d
admitted minus n places d e = by (nat_lt (shortened n places).0 (10 ^ 38) && nat_le (shortened n places).1 38) refl e
  where
    by : (b : Bool) → (nat_lt (shortened n places).0 (10 ^ 38) && nat_le (shortened n places).1 38) ≡ b → cond b (Some (least minus n places)) None ≡ Some d → IsNumber d
    by false f g = cc
    by true f g =
        let same : least minus n places ≡ d = cc in
        let both = and_parts (nat_lt (shortened n places).0 (10 ^ 38)) (nat_le (shortened n places).1 38) f in
        let known = shortened_is n places in
        let size : unsigned_abs (least minus n places).unscaled ≡ (shortened n places).0 = signed_abs minus (shortened n places).0 in
        let small : (shortened n places).0 < 10 ^ 38 = let test = both.0 in grind (arith, nat_tests) in
        let few : (shortened n places).1 ≤ 38 = let test = both.1 in grind (arith, nat_tests) in
        subst IsNumber same (record {
          size = subst (λ (m : ℕ). m < 10 ^ 38) (sym size) small;
          places = few;
          least = λ z. known.lean (ap (λ (m : ℕ). m % 10) (sym size) ∙ z);
        })

pub read_number : (s : List ℕ) (d : Decimal) → read_of s ≡ Ok d → IsNumber d
unfolding number_of
read_number s d e = by (parsed s) e
  where
    some : (w : Written) (o : Option Decimal) → number_of w ≡ o → ok_or o TooWide ≡ Ok d → IsNumber d
    some w None f g = cc
    some w (Some x) f g = let same : x ≡ d = cc in admitted _ _ _ d (f ∙ ap Some same)

    by : (o : Option Written) → read_from o ≡ Ok d → IsNumber d
    by None f = cc
    by (Some w) f = some w (number_of w) refl f

-- a text that is read is a number of JSON
pub text_number : (s : List ℕ) (d : Decimal) → IsRead s d → texts.IsNumber s
text_number s d h = record { parts = h.0; is_spelling = h.1.0 }
