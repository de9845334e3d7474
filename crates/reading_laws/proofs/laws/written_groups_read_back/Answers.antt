use Rattle.reading_laws.proofs.WrittenGroups.{documents_back, chunk_comes_back, chunks_come_back, group_comes_back}
use Rattle.std.proofs.Common.{refl, Ok}
use Rattle.level_striping.specs.Entries.{stripes}
use Rattle.reading_laws.specs.Documents.{shredded_rows}
use Rattle.schema_parsing.proofs.WrittenNodes.{schema_written}
use Rattle.reading_laws.proofs.laws.written_groups_read_back.Goals as goal

pub returns-clause-records : goal.returns-clause-records
returns-clause-records c = λ optional text schema widths rows is wide each. documents_back optional schema widths rows (schema_written text schema is) wide each

pub returns-clause-chunk : goal.returns-clause-chunk
returns-clause-chunk c = chunk_comes_back

pub returns-clause-group : goal.returns-clause-group
returns-clause-group c = chunks_come_back

pub returns-clause-stripes : goal.returns-clause-stripes
returns-clause-stripes c = λ mask optional text schema widths rows all is wide each. group_comes_back mask optional text schema widths rows (λ j. Ok (stripes optional schema (shredded_rows schema widths rows) j)) all is wide each (λ j inside. refl)
