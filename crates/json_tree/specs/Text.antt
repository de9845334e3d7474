-- The canonical JSON text of a value: no white space, names in their order, and of the escapes of
-- RFC 8259, section 7, the short one where there is one.
use Rattle.std.specs.Prelude.{ℕ, ◌+◌, ◌/◌, ◌%◌, ◌==◌, nat_lt, List, [], ◌∷◌, ◌++◌, cond, codes}
use Rattle.exact_num.specs.Text as numbers
use Rattle.std.specs.List.{flat_map}
use Rattle.json_tree.specs.Json.{Json, null, boolean, number, text, array, object, Parts, no_parts, part, Fields, no_fields, field}

-- a lower-case hex digit
abbrev pub hex_digit : ℕ → ℕ
hex_digit d = cond (nat_lt d 10) (48 + d) (87 + d)

-- one byte within a string
unfoldable pub escaped : ℕ → List ℕ
escaped x =
    cond (x == 34) (92 ∷ (34 ∷ []))
    (cond (x == 92) (92 ∷ (92 ∷ []))
    (cond (x == 8) (92 ∷ (98 ∷ []))
    (cond (x == 9) (92 ∷ (116 ∷ []))
    (cond (x == 10) (92 ∷ (110 ∷ []))
    (cond (x == 12) (92 ∷ (102 ∷ []))
    (cond (x == 13) (92 ∷ (114 ∷ []))
    (cond (nat_lt x 32) (92 ∷ (117 ∷ (48 ∷ (48 ∷ (hex_digit (x / 16) ∷ (hex_digit (x % 16) ∷ []))))))
    (x ∷ []))))))))

-- a string in its quotes
abbrev pub quoted : List ℕ → List ℕ
quoted s = 34 ∷ (flat_map escaped s ++ 34 ∷ [])

abbrev mutual
  pub text_of : Json → List ℕ
  text_of null = codes "null"
  text_of (boolean b) = cond b (codes "true") (codes "false")
  text_of (number d) = numbers.text_of d
  text_of (text s) = quoted s
  text_of (array ps) = 91 ∷ (parts_text ps ++ 93 ∷ [])
  text_of (object fs) = 123 ∷ (fields_text fs ++ 125 ∷ [])

  -- items with a comma between two of them
  pub parts_text : Parts → List ℕ
  parts_text no_parts = []
  parts_text (part j ps) = text_of j ++ more_parts ps

  pub more_parts : Parts → List ℕ
  more_parts no_parts = []
  more_parts (part j ps) = 44 ∷ (text_of j ++ more_parts ps)

  -- members with a comma between two of them
  pub fields_text : Fields → List ℕ
  fields_text no_fields = []
  fields_text (field name j fs) = quoted name ++ 58 ∷ (text_of j ++ more_fields fs)

  pub more_fields : Fields → List ℕ
  more_fields no_fields = []
  more_fields (field name j fs) = 44 ∷ (quoted name ++ 58 ∷ (text_of j ++ more_fields fs))
