-- Values and documents, written and read back.
use Rattle.std.proofs.Common.{◌≡◌, ℕ, ◌+◌, ◌-◌, ◌^◌, ◌<◌, ◌≤◌, List, ◌++◌, length, Ok, refl, arith}
use Rattle.json_tree.specs.Json.{Json, depth_of}
use Rattle.json_tree.specs.Text.{text_of}
use Rattle.json_tree.specs.Valid.{IsValid}
use Rattle.variant_meta.specs.Written.{written_size, coded_names}
use Rattle.variant_meta.proofs.ReadBack as written_names
use Rattle.variant_meta.proofs.Sizes.{dictionary_fits}
use Rattle.variant_read.specs.Meaning.{max_nesting, means}
use Rattle.variant_write.specs.Coded.{coded}
use Rattle.variant_write.specs.Conditions.{HasNames, IsWidths, max_text_len}
use Rattle.variant_write.specs.Dictionaries.{dictionary}
use Rattle.variant_write.specs.declared.widths.Widths.{Widths}
use Rattle.variant_write.proofs.DictionaryNames.{dictionary_has, dictionary_within, dictionary_utf8}
use Rattle.variant_write.proofs.SizeLaw.{coded_most}
use Rattle.variant_laws.specs.Documents.{document_in}
use Rattle.variant_laws.proofs.Coded.{coded_mean}

pub read_back : (ns : List (List ℕ)) (json : Json) (widths : Widths) (rest : List ℕ) (above : ℕ) → length ns < 2 ^ 32 → IsWidths widths → IsValid json → HasNames ns json → above + depth_of json ≤ max_nesting → length (text_of json) ≤ max_text_len → means ns (coded ns json widths ++ rest) above ≡ Ok (json, length (coded ns json widths))
unfolding means
read_back ns json widths rest above few wide valid have deep short =
    let size = coded_most ns json widths wide in
    coded_mean ns widths wide few json (max_nesting - above) valid have (omega (arith, deep)) (omega (arith, size, short)) rest

pub document_read_back : (json : Json) (least : ℕ) (widths : Widths) (after rest : List ℕ) → 1 ≤ least → least ≤ 4 → IsWidths widths → IsValid json → depth_of json ≤ max_nesting → length (text_of json) ≤ max_text_len → document_in (coded_names least (dictionary json) ++ after) (coded (dictionary json) json widths ++ rest) ≡ Ok json
unfolding coded_names
document_read_back json least widths after rest low high wide valid deep short =
    let ns = dictionary json in
    let is = dictionary_within json short in
    let fits = dictionary_fits least ns is low high in
    let count = is.few in
    rw (written_names.read_back (written_size least ns) ns after fits.0 fits.1 fits.2 fits.3 is.rising (dictionary_utf8 json valid), read_back ns json widths rest 0 (omega (arith, count)) wide valid (dictionary_has json) (omega (arith, deep)) short) refl
