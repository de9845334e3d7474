use Rattle.schema_parsing.proofs.Canonical.{canonical_is_schema}
use Rattle.schema_parsing.proofs.printing.print_schema.Goals as goal

pub returns-then-is_err-clause-read_back : goal.returns-then-is_err-clause-read_back
returns-then-is_err-clause-read_back c = canonical_is_schema c.requires.written.text _ c.requires.written.is_schema

pub returns-clause-read_back : goal.returns-clause-read_back
returns-clause-read_back c = canonical_is_schema c.requires.written.text _ c.requires.written.is_schema
