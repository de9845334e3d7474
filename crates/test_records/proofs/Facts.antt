-- What is known of schemas, documents and records.
use Rattle.std.proofs.Common.{◌≡◌, ℕ, List, arith}
use Rattle.json_tree.specs.Json.{Json}
use Rattle.json_tree.specs.Valid.{IsValid}
use Rattle.exact_json.specs.Meaning.{Spells}
use Rattle.exact_json.proofs.LineValues.{denoted_valid}
use Rattle.variant_write.specs.declared.widths.Widths.{Widths}
use Rattle.shred_schema.specs.Groups.{Group}
use Rattle.shred_schema.specs.Lawful.{AllWritten, IsWellFormed}
use Rattle.shred_schema.specs.Recs.{Rec}
use Rattle.shred_schema.specs.Shapes.{HasShape}
use Rattle.shred_schema.proofs.NodeFacts.{written_are_nodes}
use Rattle.schema_parsing.specs.Grammar.{IsSchema}
use Rattle.schema_parsing.proofs.WrittenNodes.{schema_written}
use Rattle.shredder.specs.Shredded.{by_names, shredded}
use Rattle.shredding_laws.proofs.Standing.{have_shape}

-- the node of a schema is that of a column
pub schema_well : (text : List ℕ) (schema : Group) → IsSchema text schema → IsWellFormed schema
schema_well text schema is = record { nodes = written_are_nodes schema (schema_written text schema is); deep = omega (arith, is.shallow); few = omega (arith, is.few) }

-- the value that a line spells is valid
pub document_valid : (line : List ℕ) (json : Json) → Spells line json → IsValid json
document_valid line json spelled = denoted_valid line json (record { way = spelled.is_json.way; is_written = spelled.is_json.is_written; is_flawless = spelled.is_flawless; value = spelled.value })

-- what is shredded for a node has its shape
pub shredded_shape : (names : List (List ℕ)) (widths : Widths) (n : Group) (j : Json) (x : Rec) → x ≡ shredded (by_names names widths) n j → AllWritten n → IsValid j → HasShape n x
shredded_shape names widths n j x is written valid = rw is (have_shape (by_names names widths) n j written valid)
