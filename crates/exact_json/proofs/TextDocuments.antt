-- The canonical text of a valid value denotes it, that of a document spells it, and neither means anything else.
use Rattle.std.proofs.Common.{◌≡◌, ◌∙◌, sym, ap, ◌≤◌, nat_le, [], false, append-nil, arith}
use Rattle.std.proofs.lemmas.Bool.Decides.{nat_tests}
use Rattle.json_grammar.specs.Grammar.{IsWrittenAs}
use Rattle.json_grammar.proofs.Lines.{written_once}
use Rattle.json_tree.specs.Json.{Json, depth_of}
use Rattle.json_tree.specs.Text.{text_of}
use Rattle.exact_json.specs.Brackets.{is_too_deep}
use Rattle.json_tree.specs.Valid.{IsValid}
use Rattle.exact_json.specs.Document.{IsDocument}
use Rattle.exact_json.specs.Meaning.{Spells, Denotes, tree_of}
use Rattle.exact_json.proofs.Depths.{line_deep}
use Rattle.exact_json.proofs.Judged.{one_value}
use Rattle.exact_json.proofs.TextMeaning.{well, means, clean}
use Rattle.exact_json.proofs.TextTrees.{written_of, spells, nests}
use Rattle.exact_json.proofs.TextUtf8.{utf8}

text_written : (j : Json) → IsValid j → IsWrittenAs (text_of j) (written_of j)
text_written j h = record { before = []; after = []; bytes = sym (spells j [] ∙ append-nil (text_of j)); is_gap = tt; is_well = well j h; is_gap_after = tt }

text_shallow : (j : Json) → IsValid j → depth_of j ≤ 64 → is_too_deep (text_of j) ≡ false
text_shallow j h few =
    let none : nat_le 65 (depth_of j) ≡ false = grind (arith, nat_tests) in
    line_deep (text_of j) (written_of j) (text_written j h) ∙ ap (nat_le 65) (nests j) ∙ none

pub text_spells : (j : Json) → IsDocument j → Spells (text_of j) j
text_spells j d =
    let v = d.is_line_value in
    record {
      is_json = record {
        is_short_text = record { short = d.short; utf8 = utf8 j v.valid; shallow = text_shallow j v.valid v.shallow };
        way = written_of j;
        is_written = text_written j v.valid;
      };
      is_flawless = clean j v.valid;
      value = sym (means j v.valid);
    }

pub text_spells_one : (j other : Json) → IsDocument j → Spells (text_of j) other → other ≡ j
text_spells_one j other d s = one_value (text_of j) other j s (text_spells j d)

pub text_denotes : (j : Json) → IsValid j → Denotes (text_of j) j
text_denotes j h = record { way = written_of j; is_written = text_written j h; is_flawless = clean j h; value = sym (means j h) }

pub text_denotes_one : (j other : Json) → IsValid j → Denotes (text_of j) other → other ≡ j
text_denotes_one j other h s = s.value ∙ ap tree_of (written_once (text_of j) s.way (written_of j) s.is_written (text_written j h)) ∙ means j h
