-- Page headers that are written read back.
use Rattle.std.proofs.Common.{◌≡◌, inl, inr, refl, subst, ℕ, ◌-◌, List, ◌++◌, length, pos, Option, Some, IfSome, Ok, true, arith}
use Rattle.std.proofs.lemmas.List.{length-append}
use Rattle.thrift_compact.specs.Trees.{Fields, no_fields}
use Rattle.thrift_compact.specs.Coded.{maybe, fields_coded}
use Rattle.thrift_compact.specs.Fitting.{AllFields, FitsField}
use Rattle.thrift_compact.specs.Slots.{filled}
use Rattle.thrift_compact.specs.PageHeaders.{data_shapes, data_put, data_finish, data_of, dict_shapes, dict_put, dict_finish, dict_of, data_v2_shapes, data_v2_put, data_v2_finish, data_v2_of, page_shapes, page_put, page_finish, page_of, has_inner, with_inner, page_header}
use Rattle.thrift_compact.specs.PageWriting.{data_fields, data_tree, dict_fields, dict_tree, data_v2_fields, data_v2_tree, page_fields, DataHeaderCounts, DictHeaderCounts, DataHeaderV2Counts, IsWritable, DataHeaderI32s, DictHeaderI32s, DataHeaderV2I32s, HasI32s}
use Rattle.thrift_compact.specs.declared.slots.Slot.{Slot}
use Rattle.thrift_compact.specs.declared.slots.Slot.TheVariants.{Missing, Found}
use Rattle.thrift_compact.specs.declared.page_headers.DataHeader.{DataHeader}
use Rattle.thrift_compact.specs.declared.page_headers.DictHeader.{DictHeader}
use Rattle.thrift_compact.specs.declared.page_headers.DataHeaderV2.{DataHeaderV2}
use Rattle.thrift_compact.specs.declared.page_headers.PageHeader.{PageHeader}
use Rattle.thrift_compact.specs.declared.page_headers.PageSlots.{PageSlots}
use Rattle.thrift_compact.proofs.SlotsBack.{not_negative, slot_of, optional_slot, step, maybe_fit}
use Rattle.thrift_compact.proofs.TreesBack.{struct_reads_back}

data_again : (h : DataHeader) → DataHeaderCounts h → data_of (data_fields h) ≡ Some h
unfolding filled data_put data_finish data_fields
data_again h c = rw (not_negative h.num_values c) refl

dict_again : (h : DictHeader) → DictHeaderCounts h → dict_of (dict_fields h) ≡ Some h
unfolding filled dict_put dict_finish dict_fields
dict_again h c = rw (not_negative h.num_values c) refl

data_v2_again : (h : DataHeaderV2) → DataHeaderV2Counts h → data_v2_of (data_v2_fields h) ≡ Some h
unfolding filled data_v2_put data_v2_finish data_v2_fields
data_v2_again h c =
    rw (not_negative h.num_values c.0, not_negative h.num_nulls c.1, not_negative h.num_rows c.2, not_negative h.definition_levels_byte_length c.3, not_negative h.repetition_levels_byte_length c.4) refl

inner_kept : (h : PageHeader) → has_inner h ≡ true → with_inner h ≡ Some h
inner_kept h e = rw e refl

page_slots : PageHeader → Slot DataHeader → Slot DictHeader → Slot DataHeaderV2 → PageSlots
page_slots h a b c = record {
  kind = Found h.kind;
  uncompressed_page_size = Found h.uncompressed_page_size;
  compressed_page_size = Found h.compressed_page_size;
  data_page_header = a;
  dictionary_page_header = b;
  data_page_header_v2 = c;
}

page_again : (h : PageHeader) → IsWritable h → page_of (page_fields h) ≡ Some h
unfolding filled page_put page_finish page_fields page_slots
page_again h w =
    rw (
      step page_put (λ x. page_slots h x Missing Missing) (pos 5) data_tree h.data_page_header _ (λ a e. rw (data_again a (subst (λ (x : Option DataHeader). IfSome x DataHeaderCounts) e w.data_page)) refl),
      step page_put (λ x. page_slots h (slot_of h.data_page_header) x Missing) (pos 7) dict_tree h.dictionary_page_header _ (λ a e. rw (dict_again a (subst (λ (x : Option DictHeader). IfSome x DictHeaderCounts) e w.dictionary_page)) refl),
      step page_put (λ x. page_slots h (slot_of h.data_page_header) (slot_of h.dictionary_page_header) x) (pos 8) data_v2_tree h.data_page_header_v2 _ (λ a e. rw (data_v2_again a (subst (λ (x : Option DataHeaderV2). IfSome x DataHeaderV2Counts) e w.data_page_v2)) refl),
      not_negative h.uncompressed_page_size w.uncompressed,
      not_negative h.compressed_page_size w.compressed,
      optional_slot h.data_page_header,
      optional_slot h.dictionary_page_header,
      optional_slot h.data_page_header_v2,
    )
    (inner_kept h w.inner)

-- What the tables allow.

data_fit : (h : DataHeader) → DataHeaderI32s h → AllFields (FitsField data_shapes) 0 (data_fields h)
unfolding data_shapes data_fields
data_fit h f = (
  refl,
  omega arith,
  omega arith,
  inl (refl, f.0),
  (
    refl,
    omega arith,
    omega arith,
    inr (refl, inl (refl, f.1)),
    (
      refl,
      omega arith,
      omega arith,
      inr (refl, inr (refl, inl (refl, f.2))),
      (refl, omega arith, omega arith, inr (refl, inr (refl, inr (refl, inl (refl, f.3)))), tt),
    ),
  ),
)

dict_fit : (h : DictHeader) → DictHeaderI32s h → AllFields (FitsField dict_shapes) 0 (dict_fields h)
unfolding dict_shapes dict_fields
dict_fit h f = (
  refl,
  omega arith,
  omega arith,
  inl (refl, f.0),
  (refl, omega arith, omega arith, inr (refl, inl (refl, f.1)), tt),
)

data_v2_fit : (h : DataHeaderV2) → DataHeaderV2I32s h → AllFields (FitsField data_v2_shapes) 0 (data_v2_fields h)
unfolding data_v2_shapes data_v2_fields
data_v2_fit h f = (
  refl,
  omega arith,
  omega arith,
  inl (refl, f.0),
  (
    refl,
    omega arith,
    omega arith,
    inr (refl, inl (refl, f.1)),
    (
      refl,
      omega arith,
      omega arith,
      inr (refl, inr (refl, inl (refl, f.2))),
      (
        refl,
        omega arith,
        omega arith,
        inr (refl, inr (refl, inr (refl, inl (refl, f.3)))),
        (
          refl,
          omega arith,
          omega arith,
          inr (refl, inr (refl, inr (refl, inr (refl, inl (refl, f.4))))),
          (refl, omega arith, omega arith, inr (refl, inr (refl, inr (refl, inr (refl, inr (refl, inl (refl, f.5)))))), tt),
        ),
      ),
    ),
  ),
)

page_fit : (h : PageHeader) → HasI32s h → AllFields (FitsField page_shapes) 0 (page_fields h)
unfolding page_shapes page_fields
page_fit h f =
    let f8 : Fields = maybe (pos 8) data_v2_tree h.data_page_header_v2 no_fields in
    let f7 : Fields = maybe (pos 7) dict_tree h.dictionary_page_header f8 in (
      refl,
      omega arith,
      omega arith,
      inl (refl, f.kind),
      (
        refl,
        omega arith,
        omega arith,
        inr (refl, inl (refl, f.uncompressed)),
        (
          refl,
          omega arith,
          omega arith,
          inr (refl, inr (refl, inl (refl, f.compressed))),
          maybe_fit (FitsField page_shapes) 3 5 data_tree h.data_page_header f7 (omega arith) (omega arith) (λ a e. inr (refl, inr (refl, inr (refl, inl (refl, data_fit a (subst (λ (x : Option DataHeader). IfSome x DataHeaderI32s) e f.data_page)))))) (
              maybe_fit (FitsField page_shapes) 5 7 dict_tree h.dictionary_page_header f8 (omega arith) (omega arith) (λ a e. inr (refl, inr (refl, inr (refl, inr (refl, inl (refl, dict_fit a (subst (λ (x : Option DictHeader). IfSome x DictHeaderI32s) e f.dictionary_page))))))) (
              maybe_fit (FitsField page_shapes) 7 8 data_v2_tree h.data_page_header_v2 no_fields (omega arith) (omega arith) (λ a e. inr (refl, inr (refl, inr (refl, inr (refl, inr (refl, inl (refl, data_v2_fit a (subst (λ (x : Option DataHeaderV2). IfSome x DataHeaderV2I32s) e f.data_page_v2)))))))) tt)),
        ),
      ),
    )

pub page_reads_back : (h : PageHeader) (rest : List ℕ) → IsWritable h → HasI32s h → page_header (fields_coded 0 (page_fields h) ++ rest) ≡ Ok (h, length (fields_coded 0 (page_fields h)))
unfolding page_header
page_reads_back h rest w f =
    let parts = length-append (fields_coded 0 (page_fields h)) rest in
    let len : length (fields_coded 0 (page_fields h) ++ rest) - length rest ≡ length (fields_coded 0 (page_fields h)) = omega (arith, parts) in
    rw (struct_reads_back page_shapes (page_fields h) rest (page_fit h f), page_again h w, len) refl
