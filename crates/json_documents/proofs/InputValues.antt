-- What a line spells is a document of an input.
use Rattle.std.proofs.Common.{ℕ, List, arith}
use Rattle.json_tree.specs.Json.{Json}
use Rattle.exact_json.specs.Meaning.{Spells}
use Rattle.exact_json.proofs.LineValues.{line_value}
use Rattle.exact_json.proofs.TextSizes.{denoted_tenfold, spelled_denotes}
use Rattle.json_documents.specs.Documents.{IsInputValue}

pub input_value : (line : List ℕ) (json : Json) → Spells line json → IsInputValue json
input_value line json s = record {
  is_line_value = line_value line json s;
  short = omega (arith, s.is_json.is_short_text.short, denoted_tenfold line json (spelled_denotes line json s));
}
