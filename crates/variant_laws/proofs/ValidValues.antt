-- What is read is valid.
use Rattle.std.proofs.Common.{◌≡◌, refl, ℕ, zero, suc, ◌+◌, ◌-◌, ◌≤◌, ◌==◌, nat_lt, not, Bool, true, false, ◌&&◌, List, length, Ok}
use Rattle.std.specs.List.{list_all}
use Rattle.std.specs.Str.{is_utf8}
use Rattle.json_tree.specs.Json.{Json, depth_of}
use Rattle.json_tree.specs.Valid.{IsValid}
use Rattle.vs_bytes.specs.declared.rule.Rule.TheVariants.{ValueTooDeep}
use Rattle.variant_meta.specs.Metadata.{version_read, version, sorted_strings, last_offset, names_start, all_names, offsets_fall, names}
use Rattle.variant_meta.specs.Names.{names_rise}
use Rattle.variant_read.specs.Meaning.{max_nesting, means, value_within}
use Rattle.variant_laws.specs.Bytes.{AreBytes}
use Rattle.variant_laws.specs.Documents.{document_in}
use Rattle.variant_laws.proofs.Holding.{Holds, holds_ok, holds_err, holds_if, holds_then}
use Rattle.variant_laws.proofs.ValidItems.{IsGoodKind, value_good, container_good}
use Rattle.variant_laws.proofs.ValidPlain.{IsGood, unread_good}

within_good : (ns : List (List ℕ)) (room : ℕ) → list_all is_utf8 ns ≡ true → IsGoodKind ns room (value_within ns room)
unfolding value_within
within_good ns zero utf8 = value_good ns zero _ (unread_good ns zero ValueTooDeep)
within_good ns (suc room) utf8 = value_good ns (suc room) _ (container_good ns room (value_within ns room) utf8 (within_good ns room utf8))

pub read_valid : (ns : List (List ℕ)) (bytes : List ℕ) (above : ℕ) (json : Json) (size : ℕ) → list_all is_utf8 ns ≡ true → AreBytes bytes → means ns bytes above ≡ Ok (json, size) → IsGood ns (max_nesting - above) (length bytes) (json, size)
unfolding means
read_valid ns bytes above json size utf8 are h =
    (within_good ns (max_nesting - above) utf8 bytes are).held (json, size) h

-- The names of metadata are UTF-8.

names_good : (metadata : List ℕ) → Holds (λ ns. list_all is_utf8 ns ≡ true) (names metadata)
unfolding names
names_good metadata =
    let good : List (List ℕ) → Type 0 = λ ns. list_all is_utf8 ns ≡ true in
    holds_if good (length metadata == 0) _ _ (λ _. holds_err _ _) (λ _.
    holds_if good (not (version metadata == version_read)) _ _ (λ _. holds_err _ _) (λ _.
    holds_if good (nat_lt (length metadata) (names_start metadata)) _ _ (λ _. holds_err _ _) (λ _.
    holds_if good (offsets_fall metadata) _ _ (λ _. holds_err _ _) (λ _.
    holds_if good (nat_lt (length metadata) (names_start metadata + last_offset metadata)) _ _ (λ _. holds_err _ _) (λ _.
    holds_if good (not (list_all is_utf8 (all_names metadata))) _ _ (λ _. holds_err _ _) (λ utf8.
    holds_if good (sorted_strings metadata && not (names_rise (all_names metadata))) _ _ (λ _. holds_err _ _) (λ _.
    holds_ok good (all_names metadata) (shown (list_all is_utf8 (all_names metadata)) utf8))))))))
  where
    shown : (b : Bool) → not b ≡ false → b ≡ true
    shown true e = refl
    shown false e = cc

pub document_valid : (metadata value : List ℕ) (json : Json) → AreBytes value → document_in metadata value ≡ Ok json → IsValid json × (depth_of json ≤ max_nesting)
unfolding means
document_valid metadata value json are h = whole.held json h
  where
    good : Json → Type 0
    good j = IsValid j × (depth_of j ≤ max_nesting)

    whole : Holds good (document_in metadata value)
    whole =
        holds_then (λ ns. list_all is_utf8 ns ≡ true) good (names metadata) _ (names_good metadata) (λ ns utf8.
        holds_then (IsGood ns max_nesting (length value)) good (value_within ns max_nesting value) _ (within_good ns max_nesting utf8 value are) (λ read is. holds_ok good read.0 (is.valid, is.depth)))
