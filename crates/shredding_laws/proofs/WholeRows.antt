-- Rows that are shredded are seen again.
use Rattle.std.proofs.Common.{◌≡◌, ◌∙◌, refl, sym, ap, ℕ, ◌≤◌, Bool, true, false, [], length, None, Some, Ok, arith}
use Rattle.std.proofs.lemmas.List.{append-nil}
use Rattle.json_tree.specs.Json.{Json, depth_of}
use Rattle.json_tree.specs.Text.{text_of}
use Rattle.json_tree.specs.Valid.{IsValid}
use Rattle.variant_meta.specs.Metadata.{names}
use Rattle.variant_meta.specs.Written.{written_size, metadata_of, coded_names}
use Rattle.variant_meta.proofs.ReadBack as written_names
use Rattle.variant_meta.proofs.Sizes.{dictionary_fits}
use Rattle.variant_read.specs.Meaning.{max_nesting}
use Rattle.variant_write.specs.Conditions.{IsWidths, max_text_len}
use Rattle.variant_write.specs.Dictionaries.{dictionary}
use Rattle.variant_write.specs.declared.widths.Widths.{Widths}
use Rattle.variant_write.proofs.DictionaryNames.{dictionary_has, dictionary_within, dictionary_utf8}
use Rattle.variant_laws.specs.Writable.{IsWritable}
use Rattle.vs_bytes.specs.Outcome.{◌>>=◌}
use Rattle.shred_schema.specs.Groups.{Group}
use Rattle.shred_schema.specs.Lawful.{AllWritten}
use Rattle.shred_schema.specs.Ranges.{every}
use Rattle.shred_schema.specs.Recs.{Rec}
use Rattle.shred_schema.proofs.NodeFacts.{written_are_nodes, nodes_have_leaves}
use Rattle.shredder.specs.Shredded.{by_names, shredded, shred_row}
use Rattle.unshredder.specs.Merging.{or_null}
use Rattle.unshredder.specs.Rows.{has_value, names_needed, row_seen, row_of}
use Rattle.unshredder.specs.Seen.{seen}
use Rattle.shredding_laws.proofs.Back.{back}
use Rattle.shredding_laws.proofs.SameNames.{seen_same}

metadata_back : (j : Json) (least : ℕ) → 1 ≤ least → least ≤ 4 → IsValid j → length (text_of j) ≤ max_text_len → names (coded_names least (dictionary j)) ≡ Ok (dictionary j)
unfolding coded_names
metadata_back j least low high valid short =
    let ns = dictionary j in
    let is = dictionary_within j short in
    let fits = dictionary_fits least ns is low high in
    let bytes = metadata_of (written_size least ns) ns in
    ap names (sym (append-nil bytes)) ∙ written_names.read_back (written_size least ns) ns [] fits.0 fits.1 fits.2 fits.3 is.rising (dictionary_utf8 j valid)

writable : (j : Json) → IsValid j → depth_of j ≤ max_nesting → length (text_of j) ≤ max_text_len → IsWritable (dictionary j) 0 j
writable j valid deep short =
    let few = (dictionary_within j short).few in
    record { few = omega (arith, few); valid = valid; named = dictionary_has j; depth = omega (arith, deep); short = short }

pub row_back : (n : Group) (j : Json) (widths : Widths) → AllWritten n → IsWidths widths → IsValid j → depth_of j ≤ max_nesting → length (text_of j) ≤ max_text_len → row_of n (shred_row n (Some j) widths) ≡ Ok (Some j)
unfolding row_seen
row_back n j widths h wide valid deep short = by (has_value every n 1 x) refl
  where
    x : Rec
    x = shredded (by_names (dictionary j) widths) n j

    whole : seen every (dictionary j) n 1 0 x ≡ Ok (Some j)
    whole = back (dictionary j) widths wide n h (nodes_have_leaves n (written_are_nodes n h)) 1 0 j (writable j valid deep short)

    by : (b : Bool) → has_value every n 1 x ≡ b → (names_needed b (coded_names widths.offset (dictionary j)) >>= λ ns. seen every ns n 1 0 x >>= λ found. Ok (Some (or_null found))) ≡ Ok (Some j)
    by true e = rw (metadata_back j widths.offset wide.offset_least wide.offset_most valid short, whole) refl
    by false e = rw (seen_same every [] (dictionary j) n 1 0 x e, whole) refl

pub no_row : (n : Group) (widths : Widths) → row_of n (shred_row n None widths) ≡ Ok None
unfolding row_seen
no_row n widths = refl
