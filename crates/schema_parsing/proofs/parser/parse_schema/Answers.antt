use Rattle.shred_schema.specs.Views.{group_of}
use Rattle.schema_parsing.proofs.Texts.{reads_schema, no_schema_read}
use Rattle.schema_parsing.proofs.parser.parse_schema.Goals as goal

pub returns-in-Ok : goal.returns-in-Ok
returns-in-Ok c = record { parses = reads_schema c.args.text.now (group_of c.in-Ok.node) (rw (← c.as_bytes.ensures.value) c.in-Ok.ensures) }

pub returns-in-Err-Fault : goal.returns-in-Err-Fault
returns-in-Err-Fault c = record { parses = no_schema_read c.args.text.now (rw (← c.as_bytes.ensures.value) (rw c.in-Err-Fault.field-0-is at c.in-Err-Fault.ensures)) }
