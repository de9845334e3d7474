-- How the reader of a whole text answers.
use Rattle.std.specs.Prelude.{ℕ, List, Result, Ok, Err}
use Rattle.shred_schema.specs.Groups.{Group}
use Rattle.schema_parsing.specs.Grammar.{IsSchema}
use Rattle.schema_parsing.specs.declared.fault.SchemaFault.{SchemaFault}
use Rattle.schema_parsing.specs.declared.fault.SchemaFault.TheVariants.{BadSchema, NoMemory}

-- the schema of the text, or that it is none. Out of memory says nothing
abbrev pub Parses : {A : Type 0} → (A → Group) → List ℕ → Result A SchemaFault → Type 0
Parses view text (Ok node) = IsSchema text (view node)
Parses view text (Err BadSchema) = (schema : Group) → IsSchema text schema → ⊥
Parses view text (Err NoMemory) = Unit {0}
