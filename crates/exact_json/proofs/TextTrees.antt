-- The derivation that the canonical text of a value spells, with no white space in it.
use Rattle.std.proofs.Common.{◌≡◌, ◌∙◌, refl, sym, ap, ap₂, ℕ, ◌+◌, max, List, [], ◌∷◌, ◌++◌, append_assoc}
use Rattle.json_grammar.specs.Grammar as written
use Rattle.json_grammar.specs.Grammar.{Written, Elements, no_elements, first_element, MoreElements, end_elements, next_element, Entry, entry, Entries, no_entries, first_entry, MoreEntries, end_entries, next_entry, spelled, elements_spelled, more_elements_spelled, entry_spelled, entries_spelled, more_entries_spelled, nesting, elements_nesting, more_nesting, entries_nesting, more_entries_nesting}
use Rattle.json_strings.specs.Pieces.{pieces_spelled}
use Rattle.exact_num.specs.Text as numbers
use Rattle.json_tree.specs.Json.{Json, null, boolean, number, text, array, object, Parts, no_parts, part, Fields, no_fields, field, depth_of, parts_depth, fields_depth}
use Rattle.json_tree.specs.Text.{text_of, parts_text, more_parts, fields_text, more_fields, quoted}
use Rattle.json_tree.proofs.QuotedStrings.{pieces_of, string_spells}

abbrev mutual
  pub written_of : Json → Written
  written_of null = written.null
  written_of (boolean b) = written.boolean b
  written_of (number d) = written.number (numbers.text_of d)
  written_of (text s) = written.text (pieces_of s)
  written_of (array ps) = written.array [] (elements_of ps)
  written_of (object fs) = written.object [] (entries_of fs)

  pub elements_of : Parts → Elements
  elements_of no_parts = no_elements
  elements_of (part j ps) = first_element (written_of j) [] (more_elements_of ps)

  pub more_elements_of : Parts → MoreElements
  more_elements_of no_parts = end_elements
  more_elements_of (part j ps) = next_element [] (written_of j) [] (more_elements_of ps)

  pub entries_of : Fields → Entries
  entries_of no_fields = no_entries
  entries_of (field name j fs) = first_entry (entry (pieces_of name) [] [] (written_of j)) [] (more_entries_of fs)

  pub more_entries_of : Fields → MoreEntries
  more_entries_of no_fields = end_entries
  more_entries_of (field name j fs) = next_entry [] (entry (pieces_of name) [] [] (written_of j)) [] (more_entries_of fs)

-- The text spells it.

-- a part, what stands after it in its array or object, the closing byte, and what is after that
behind : (here others : List ℕ) (close : ℕ) (after rest : List ℕ) → rest ≡ others ++ close ∷ after → here ++ rest ≡ (here ++ others) ++ close ∷ after
behind here others close after rest e = ap (λ t. here ++ t) e ∙ sym (append_assoc here others (close ∷ after))

-- the whole of an array or object
enclosed : (open_byte close : ℕ) (inner after spelling : List ℕ) → spelling ≡ inner ++ close ∷ after → open_byte ∷ spelling ≡ (open_byte ∷ (inner ++ close ∷ [])) ++ after
enclosed open_byte close inner after spelling e = ap (λ t. open_byte ∷ t) (e ∙ sym (append_assoc inner (close ∷ []) after))

-- a member, and what stands after it
member : (name value others : List ℕ) (after rest : List ℕ) → rest ≡ (value ++ others) ++ 125 ∷ after → 34 ∷ pieces_spelled (pieces_of name) (58 ∷ rest) ≡ (quoted name ++ 58 ∷ (value ++ others)) ++ 125 ∷ after
member name value others after rest e =
    string_spells name (58 ∷ rest) ∙ ap (λ t. quoted name ++ 58 ∷ t) e ∙ sym (append_assoc (quoted name) (58 ∷ (value ++ others)) (125 ∷ after))

mutual
  pub spells : (j : Json) (after : List ℕ) → spelled (written_of j) after ≡ text_of j ++ after
  spells null after = refl
  spells (boolean b) after = refl
  spells (number d) after = refl
  spells (text s) after = string_spells s after
  spells (array ps) after = enclosed 91 93 (parts_text ps) after (elements_spelled (elements_of ps) after) (parts_spell ps after)
  spells (object fs) after = enclosed 123 125 (fields_text fs) after (entries_spelled (entries_of fs) after) (fields_spell fs after)

  parts_spell : (ps : Parts) (after : List ℕ) → elements_spelled (elements_of ps) after ≡ parts_text ps ++ 93 ∷ after
  parts_spell no_parts after = refl
  parts_spell (part j ps) after =
      spells j (more_elements_spelled (more_elements_of ps) after) ∙ behind (text_of j) (more_parts ps) 93 after (more_elements_spelled (more_elements_of ps) after) (more_spell ps after)

  more_spell : (ps : Parts) (after : List ℕ) → more_elements_spelled (more_elements_of ps) after ≡ more_parts ps ++ 93 ∷ after
  more_spell no_parts after = refl
  more_spell (part j ps) after =
      ap (λ t. 44 ∷ t)
      (spells j (more_elements_spelled (more_elements_of ps) after) ∙ behind (text_of j) (more_parts ps) 93 after (more_elements_spelled (more_elements_of ps) after) (more_spell ps after))

  fields_spell : (fs : Fields) (after : List ℕ) → entries_spelled (entries_of fs) after ≡ fields_text fs ++ 125 ∷ after
  fields_spell no_fields after = refl
  fields_spell (field name j fs) after =
      member name (text_of j) (more_fields fs) after (spelled (written_of j) (more_entries_spelled (more_entries_of fs) after))
      (spells j (more_entries_spelled (more_entries_of fs) after) ∙ behind (text_of j) (more_fields fs) 125 after (more_entries_spelled (more_entries_of fs) after) (more_fields_spell fs after))

  more_fields_spell : (fs : Fields) (after : List ℕ) → more_entries_spelled (more_entries_of fs) after ≡ more_fields fs ++ 125 ∷ after
  more_fields_spell no_fields after = refl
  more_fields_spell (field name j fs) after =
      ap (λ t. 44 ∷ t)
      (member name (text_of j) (more_fields fs) after (spelled (written_of j) (more_entries_spelled (more_entries_of fs) after))
      (spells j (more_entries_spelled (more_entries_of fs) after) ∙ behind (text_of j) (more_fields fs) 125 after (more_entries_spelled (more_entries_of fs) after) (more_fields_spell fs after)))

-- It nests as deep as the value.

mutual
  pub nests : (j : Json) → nesting (written_of j) ≡ depth_of j
  nests null = refl
  nests (boolean b) = refl
  nests (number d) = refl
  nests (text s) = refl
  nests (array ps) = ap (λ n. n + 1) (parts_nest ps)
  nests (object fs) = ap (λ n. n + 1) (fields_nest fs)

  parts_nest : (ps : Parts) → elements_nesting (elements_of ps) ≡ parts_depth ps
  parts_nest no_parts = refl
  parts_nest (part j ps) = ap₂ (λ m n. max m n) (nests j) (more_nest ps)

  more_nest : (ps : Parts) → more_nesting (more_elements_of ps) ≡ parts_depth ps
  more_nest no_parts = refl
  more_nest (part j ps) = ap₂ (λ m n. max m n) (nests j) (more_nest ps)

  fields_nest : (fs : Fields) → entries_nesting (entries_of fs) ≡ fields_depth fs
  fields_nest no_fields = refl
  fields_nest (field name j fs) = ap₂ (λ m n. max m n) (nests j) (more_fields_nest fs)

  more_fields_nest : (fs : Fields) → more_entries_nesting (more_entries_of fs) ≡ fields_depth fs
  more_fields_nest no_fields = refl
  more_fields_nest (field name j fs) = ap₂ (λ m n. max m n) (nests j) (more_fields_nest fs)
