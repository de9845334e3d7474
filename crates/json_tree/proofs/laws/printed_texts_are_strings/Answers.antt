use Rattle.std.proofs.Common.{sym}
use Rattle.json_tree.proofs.QuotedStrings.{pieces_of, string_spells, string_means, string_paired, string_well}
use Rattle.json_tree.proofs.laws.printed_texts_are_strings.Goals as goal

pub returns : goal.returns
returns c = λ text after utf8. (pieces_of text, sym (string_spells text after), string_well text utf8, string_means text, string_paired text)
