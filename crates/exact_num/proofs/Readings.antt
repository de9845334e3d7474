-- What is read is what the text means.
use Rattle.std.proofs.Common.{◌≡◌, ◌∙◌, refl, sym, ap, ℕ, ◌+◌, ◌*◌, ◌^◌, ◌&&◌, nat_lt, nat_le, List, ◌++◌, length, Bool, true, false, cond, Option, Some, None, Ok, Err, ok_or}
use Rattle.exact_num.specs.Decimal.{Decimal, IsSame, IsNumber, IsAdmitted, signed, shortened, least, numbered}
use Rattle.exact_num.specs.Parsing.{parsed}
use Rattle.exact_num.specs.Reading.{IsRead, IsFault, number_of, read_from, read_of}
use Rattle.exact_num.specs.Spelling.{Written, meaning, digits_value, up, down}
use Rattle.exact_num.specs.declared.fault.NumFault.{NumFault}
use Rattle.exact_num.specs.declared.fault.NumFault.TheVariants.{NotNumber, TooWide}
use Rattle.exact_num.proofs.Complete.{parsed_complete}
use Rattle.exact_num.proofs.Shortening.{least_same}
use Rattle.exact_num.proofs.Sound.{parsed_sound}
use Rattle.exact_num.proofs.Uniqueness.{numbered_is}

admitted_same : (minus : Bool) (n places : ℕ) (d : Decimal) → numbered minus n places ≡ Some d → IsSame d (record { unscaled = signed minus n; scale = places })
admitted_same minus n places d e = by (nat_lt (shortened n places).0 (10 ^ 38) && nat_le (shortened n places).1 38) e
  where
    by : (b : Bool) → cond b (Some (least minus n places)) None ≡ Some d → IsSame d (record { unscaled = signed minus n; scale = places })
    by true f = let same : least minus n places ≡ d = cc in rw (sym same) (least_same minus n places)
    by false f = cc

pub number_same : (w : Written) (d : Decimal) → number_of w ≡ Some d → IsSame d (meaning w)
unfolding number_of
number_same w d e = admitted_same w.negative (digits_value 0 (w.whole ++ w.fraction) * 10 ^ up w.power) (length w.fraction + down w.power) d e

pub number_is : (w : Written) (d : Decimal) → IsNumber d → IsSame d (meaning w) → number_of w ≡ Some d
unfolding number_of
number_is w d number same = numbered_is w.negative (digits_value 0 (w.whole ++ w.fraction) * 10 ^ up w.power) (length w.fraction + down w.power) d number same

pub read_ok : (text : List ℕ) (d : Decimal) → read_of text ≡ Ok d → IsRead text d
read_ok text d e = by (parsed text) refl e
  where
    some : (w : Written) (o : Option Decimal) → number_of w ≡ o → ok_or o TooWide ≡ Ok d → IsSame d (meaning w)
    some w (Some x) f g = let same : x ≡ d = cc in number_same w d (f ∙ ap (λ (y : Decimal). Some y) same)
    some w None f g = cc

    by : (p : Option Written) → parsed text ≡ p → read_from p ≡ Ok d → IsRead text d
    by None f g = cc
    by (Some w) f g = (w, (parsed_sound text w f, some w (number_of w) refl g))

pub read_err : (text : List ℕ) (fault : NumFault) → read_of text ≡ Err fault → IsFault text fault
read_err text NotNumber e = λ w h. by (number_of w) (ap read_from (sym (parsed_complete text w h)) ∙ e)
  where
    by : (o : Option Decimal) → ok_or o TooWide ≡ Err NotNumber → ⊥
    by (Some x) f = cc
    by None f = cc
read_err text TooWide e = by (parsed text) refl e
  where
    none : (w : Written) (o : Option Decimal) → number_of w ≡ o → ok_or o TooWide ≡ Err TooWide → IsAdmitted (meaning w) → ⊥
    none w (Some x) f g h = cc
    none w None f g h = let some : number_of w ≡ Some h.0 = number_is w h.0 h.1.0 h.1.1 in cc

    by : (p : Option Written) → parsed text ≡ p → read_from p ≡ Err TooWide → IsFault text TooWide
    by None f g = cc
    by (Some w) f g = (w, (parsed_sound text w f, none w (number_of w) refl g))

pub read_exactly : (text : List ℕ) (d : Decimal) → IsNumber d → IsRead text d → read_of text ≡ Ok d
read_exactly text d number h =
    ap read_from (parsed_complete text h.0 h.1.0) ∙ ap (λ (o : Option Decimal). ok_or o TooWide) (number_is h.0 d number h.1.1)
