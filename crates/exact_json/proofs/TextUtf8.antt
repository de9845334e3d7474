-- The canonical text of a value is UTF-8.
use Rattle.std.proofs.Common.{ℕ, ◌<◌, List, [], ◌∷◌, ◌++◌, codes, true, false, arith}
use Rattle.std.specs.Str.{IsUtf8}
use Rattle.std.proofs.lemmas.Str.{IsUtf8-append, IsUtf8-nil}
use Rattle.json_tree.specs.Json.{Json, null, boolean, number, text, array, object, Parts, no_parts, part, Fields, no_fields, field}
use Rattle.json_tree.specs.Text.{text_of, parts_text, more_parts, fields_text, more_fields, quoted}
use Rattle.json_tree.specs.Valid.{IsValid, AreValid, HoldValid}
use Rattle.exact_json.proofs.TextAscii.{ascii_is_utf8, number_is_utf8, quoted_is_utf8}
use Rattle.exact_json.proofs.TextNumbers.{text_well}

one_is_utf8 : (b : ℕ) → b < 128 → IsUtf8 (b ∷ [])
one_is_utf8 b h = ascii_is_utf8 (b ∷ []) (h, tt)

-- one more leading ASCII byte
led : (b : ℕ) (bytes : List ℕ) → b < 128 → IsUtf8 bytes → IsUtf8 (b ∷ bytes)
led b bytes h u = IsUtf8-append (b ∷ []) bytes (one_is_utf8 b h) u

mutual
  pub utf8 : (j : Json) → IsValid j → IsUtf8 (text_of j)
  utf8 null h = ascii_is_utf8 (codes "null") (omega arith, (omega arith, (omega arith, (omega arith, tt))))
  utf8 (boolean true) h = ascii_is_utf8 (codes "true") (omega arith, (omega arith, (omega arith, (omega arith, tt))))
  utf8 (boolean false) h = ascii_is_utf8 (codes "false") (omega arith, (omega arith, (omega arith, (omega arith, (omega arith, tt)))))
  utf8 (number d) h = number_is_utf8 (text_of (number d)) (text_well d h)
  utf8 (text s) h = quoted_is_utf8 s h
  utf8 (array ps) h = led 91 (parts_text ps ++ 93 ∷ []) (omega arith) (IsUtf8-append (parts_text ps) (93 ∷ []) (parts_utf8 ps h) (one_is_utf8 93 (omega arith)))
  utf8 (object fs) h = led 123 (fields_text fs ++ 125 ∷ []) (omega arith) (IsUtf8-append (fields_text fs) (125 ∷ []) (fields_utf8 fs h.1) (one_is_utf8 125 (omega arith)))

  parts_utf8 : (ps : Parts) → AreValid ps → IsUtf8 (parts_text ps)
  parts_utf8 no_parts h = IsUtf8-nil
  parts_utf8 (part j ps) h = IsUtf8-append (text_of j) (more_parts ps) (utf8 j h.0) (more_utf8 ps h.1)

  more_utf8 : (ps : Parts) → AreValid ps → IsUtf8 (more_parts ps)
  more_utf8 no_parts h = IsUtf8-nil
  more_utf8 (part j ps) h = led 44 (text_of j ++ more_parts ps) (omega arith) (IsUtf8-append (text_of j) (more_parts ps) (utf8 j h.0) (more_utf8 ps h.1))

  fields_utf8 : (fs : Fields) → HoldValid fs → IsUtf8 (fields_text fs)
  fields_utf8 no_fields h = IsUtf8-nil
  fields_utf8 (field name j fs) h =
      IsUtf8-append (quoted name) (58 ∷ (text_of j ++ more_fields fs)) (quoted_is_utf8 name h.0)
      (led 58 (text_of j ++ more_fields fs) (omega arith) (IsUtf8-append (text_of j) (more_fields fs) (utf8 j h.1) (more_fields_utf8 fs h.2)))

  more_fields_utf8 : (fs : Fields) → HoldValid fs → IsUtf8 (more_fields fs)
  more_fields_utf8 no_fields h = IsUtf8-nil
  more_fields_utf8 (field name j fs) h =
      led 44 (quoted name ++ 58 ∷ (text_of j ++ more_fields fs)) (omega arith)
      (IsUtf8-append (quoted name) (58 ∷ (text_of j ++ more_fields fs)) (quoted_is_utf8 name h.0)
      (led 58 (text_of j ++ more_fields fs) (omega arith) (IsUtf8-append (text_of j) (more_fields fs) (utf8 j h.1) (more_fields_utf8 fs h.2))))
