-- Whole texts: what is read is the one filter that is spelled so.
use Rattle.std.proofs.Common.{◌≡◌, ◌∙◌, refl, sym, ap, ℕ, ◌≤◌, List, [], Some, None, length}
use Rattle.std.proofs.lemmas.Bool.{le-leb}
use Rattle.query_tree.specs.Formula.{Formula}
use Rattle.filter_parsing.specs.Grammar.{FilterSyntax, filter_bytes, IsWell, nesting, terms, formula_of, IsFilter}
use Rattle.filter_parsing.specs.Reading.{filter_at}
use Rattle.filter_parsing.proofs.Sound.{filter_holds}
use Rattle.filter_parsing.proofs.Complete.{filter_is_read}

pub filter_complete : (text : List ℕ) (w : FilterSyntax) → text ≡ filter_bytes w [] → IsWell w [] → terms w ≤ 256 → nesting w ≤ 64 → length text ≤ 65536 → filter_at text ≡ Some w
filter_complete text w e h few shallow short = rw (le-leb (length text) 65536 short, e, filter_is_read w h few shallow) refl

pub filter_sound : (text : List ℕ) (w : FilterSyntax) → filter_at text ≡ Some w → (text ≡ filter_bytes w []) × IsWell w [] × (terms w ≤ 256) × (nesting w ≤ 64) × (length text ≤ 65536)
filter_sound text w e =
    let h = (filter_holds text).here w e in
    (h.0.bytes, h.0.well, h.0.few, h.0.shallow, h.1)

pub is_filter : (text : List ℕ) (w : FilterSyntax) → filter_at text ≡ Some w → IsFilter text (formula_of w)
is_filter text w e =
    let h = filter_sound text w e in
    record { written = w; bytes = h.0; well = h.1; means = refl; few = h.2; shallow = h.3; short = h.4 }

filter_read : (text : List ℕ) (f : Formula) (h : IsFilter text f) → filter_at text ≡ Some h.written
filter_read text f h = filter_complete text h.written h.bytes h.well h.few h.shallow h.short

pub filter_one : (text : List ℕ) (f g : Formula) → IsFilter text f → IsFilter text g → f ≡ g
filter_one text f g h k =
    let one : filter_at text ≡ Some h.written = filter_read text f h in
    let other : filter_at text ≡ Some k.written = filter_read text g k in
    let same : h.written ≡ k.written = cc in
    h.means ∙ ap formula_of same ∙ sym k.means

pub no_filter : (text : List ℕ) → filter_at text ≡ None → (f : Formula) → IsFilter text f → ⊥
no_filter text e f h = let some : filter_at text ≡ Some h.written = filter_read text f h in cc
