use Rattle.std.proofs.Common.{refl}
use Rattle.shredder.specs.Shredded.{by_names}
use Rattle.variant_write.specs.Dictionaries.{dictionary}
use Rattle.shredding_laws.proofs.SchemaNodes.{schema_is_of}
use Rattle.shredding_laws.proofs.laws.rows_are_of_their_schema.Goals as goal

pub returns-clause-present : goal.returns-clause-present
returns-clause-present c = λ optional text schema tree widths is valid. schema_is_of (by_names (dictionary tree) widths) text schema tree is valid

pub returns-clause-absent : goal.returns-clause-absent
returns-clause-absent c = λ schema widths. refl
