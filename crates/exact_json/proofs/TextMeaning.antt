-- The derivation of the canonical text is one of the grammar, has no flaw, and means the value.
use Rattle.std.proofs.Common.{◌≡◌, ◌∙◌, refl, ap, ap₂, ℕ, List, ◌∷◌, map}
use Rattle.std.specs.Prelude.{is_some, not}
use Rattle.vs_bytes.specs.Names.{repeats}
use Rattle.json_strings.specs.Meaning.{lone_of}
use Rattle.json_grammar.specs.Grammar.{IsWell, AreWellElements, AreWellMore, AreWellEntries, AreWellMoreEntries}
use Rattle.json_tree.specs.Json.{Json, null, boolean, number, text, array, object, Parts, no_parts, part, Fields, no_fields, field}
use Rattle.json_tree.specs.Valid.{IsValid, AreValid, HoldValid}
use Rattle.exact_json.specs.Meaning.{Flaws, flawless, joined, lone_flaw, repeated_flaw, tree_of, parts_in, more_parts_in, pairs_in, more_pairs_in, flaws_of, elements_flaws, more_elements_flaws, entries_flaws, more_entries_flaws, number_or_null, wide_flaw, object_or_null}
use Rattle.json_tree.proofs.QuotedStrings.{pieces_of, string_means, string_paired, string_well}
use Rattle.exact_json.proofs.TextNumbers.{text_well, text_means}
use Rattle.exact_json.proofs.TextMembers.{members, none_repeats, object_is}
use Rattle.exact_json.proofs.TextTrees.{written_of, elements_of, more_elements_of, entries_of, more_entries_of}

mutual
  pub well : (j : Json) → IsValid j → IsWell (written_of j)
  well null h = tt
  well (boolean b) h = tt
  well (number d) h = text_well d h
  well (text s) h = string_well s h
  well (array ps) h = (tt, parts_well ps h)
  well (object fs) h = (tt, fields_well fs h.1)

  parts_well : (ps : Parts) → AreValid ps → AreWellElements (elements_of ps)
  parts_well no_parts h = tt
  parts_well (part j ps) h = (well j h.0, tt, more_well ps h.1)

  more_well : (ps : Parts) → AreValid ps → AreWellMore (more_elements_of ps)
  more_well no_parts h = tt
  more_well (part j ps) h = (tt, well j h.0, tt, more_well ps h.1)

  fields_well : (fs : Fields) → HoldValid fs → AreWellEntries (entries_of fs)
  fields_well no_fields h = tt
  fields_well (field name j fs) h = ((string_well name h.0, tt, tt, well j h.1), tt, more_fields_well fs h.2)

  more_fields_well : (fs : Fields) → HoldValid fs → AreWellMoreEntries (more_entries_of fs)
  more_fields_well no_fields h = tt
  more_fields_well (field name j fs) h = (tt, (string_well name h.0, tt, tt, well j h.1), tt, more_fields_well fs h.2)

-- it means the value

mutual
  pub means : (j : Json) → IsValid j → tree_of (written_of j) ≡ j
  means null h = refl
  means (boolean b) h = refl
  means (number d) h = ap number_or_null (text_means d h)
  means (text s) h = ap text (string_means s)
  means (array ps) h = ap array (parts_mean ps h)
  means (object fs) h = ap object_or_null (fields_mean fs h.1) ∙ object_is fs h.0

  parts_mean : (ps : Parts) → AreValid ps → parts_in (elements_of ps) ≡ ps
  parts_mean no_parts h = refl
  parts_mean (part j ps) h = ap₂ (λ k qs. part k qs) (means j h.0) (more_mean ps h.1)

  more_mean : (ps : Parts) → AreValid ps → more_parts_in (more_elements_of ps) ≡ ps
  more_mean no_parts h = refl
  more_mean (part j ps) h = ap₂ (λ k qs. part k qs) (means j h.0) (more_mean ps h.1)

  fields_mean : (fs : Fields) → HoldValid fs → pairs_in (entries_of fs) ≡ members fs
  fields_mean no_fields h = refl
  fields_mean (field name j fs) h =
      ap (λ s. (s, tree_of (written_of j)) ∷ more_pairs_in (more_entries_of fs)) (string_means name)
      ∙ ap₂ (λ k rest. (name, k) ∷ rest) (means j h.1) (more_fields_mean fs h.2)

  more_fields_mean : (fs : Fields) → HoldValid fs → more_pairs_in (more_entries_of fs) ≡ members fs
  more_fields_mean no_fields h = refl
  more_fields_mean (field name j fs) h =
      ap (λ s. (s, tree_of (written_of j)) ∷ more_pairs_in (more_entries_of fs)) (string_means name)
      ∙ ap₂ (λ k rest. (name, k) ∷ rest) (means j h.1) (more_fields_mean fs h.2)

-- it has no flaw

join : (a b : Flaws) → a ≡ flawless → b ≡ flawless → joined a b ≡ flawless
join a b e f = ap₂ (λ x y. joined x y) e f

member_clean : (name : List ℕ) (flaws : Flaws) → flaws ≡ flawless → joined (lone_flaw (lone_of (pieces_of name))) flaws ≡ flawless
member_clean name flaws e = join (lone_flaw (lone_of (pieces_of name))) flaws (ap lone_flaw (string_paired name)) e

mutual
  pub clean : (j : Json) → IsValid j → flaws_of (written_of j) ≡ flawless
  clean null h = refl
  clean (boolean b) h = refl
  clean (number d) h = ap (λ n. wide_flaw (not (is_some n))) (text_means d h)
  clean (text s) h = ap lone_flaw (string_paired s)
  clean (array ps) h = parts_clean ps h
  clean (object fs) h =
      join (entries_flaws (entries_of fs)) (repeated_flaw (repeats (map (λ m. m.0) (pairs_in (entries_of fs))))) (fields_clean fs h.1)
      (ap (λ ms. repeated_flaw (repeats (map (λ m. m.0) ms))) (fields_mean fs h.1) ∙ ap repeated_flaw (none_repeats fs h.0))

  parts_clean : (ps : Parts) → AreValid ps → elements_flaws (elements_of ps) ≡ flawless
  parts_clean no_parts h = refl
  parts_clean (part j ps) h = join (flaws_of (written_of j)) (more_elements_flaws (more_elements_of ps)) (clean j h.0) (more_clean ps h.1)

  more_clean : (ps : Parts) → AreValid ps → more_elements_flaws (more_elements_of ps) ≡ flawless
  more_clean no_parts h = refl
  more_clean (part j ps) h = join (flaws_of (written_of j)) (more_elements_flaws (more_elements_of ps)) (clean j h.0) (more_clean ps h.1)

  fields_clean : (fs : Fields) → HoldValid fs → entries_flaws (entries_of fs) ≡ flawless
  fields_clean no_fields h = refl
  fields_clean (field name j fs) h =
      join (joined (lone_flaw (lone_of (pieces_of name))) (flaws_of (written_of j))) (more_entries_flaws (more_entries_of fs)) (member_clean name (flaws_of (written_of j)) (clean j h.1)) (more_fields_clean fs h.2)

  more_fields_clean : (fs : Fields) → HoldValid fs → more_entries_flaws (more_entries_of fs) ≡ flawless
  more_fields_clean no_fields h = refl
  more_fields_clean (field name j fs) h =
      join (joined (lone_flaw (lone_of (pieces_of name))) (flaws_of (written_of j))) (more_entries_flaws (more_entries_of fs)) (member_clean name (flaws_of (written_of j)) (clean j h.1)) (more_fields_clean fs h.2)
