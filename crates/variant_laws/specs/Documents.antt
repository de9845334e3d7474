-- What metadata and a value mean together.
use Rattle.std.specs.Prelude.{ℕ, List, Result}
use Rattle.json_tree.specs.Json.{Json}
use Rattle.vs_bytes.specs.Outcome.{◌>>=◌}
use Rattle.vs_bytes.specs.declared.rule.Rule.{Rule}
use Rattle.variant_meta.specs.Metadata.{names}
use Rattle.variant_read.specs.Meaning.{json_in, means}

-- the value at the front of `value` by the names in `metadata`, or the first rule that they violate
abbrev pub document_in : List ℕ → List ℕ → Result Json Rule
document_in metadata value = names metadata >>= λ ns. json_in (means ns value 0)
