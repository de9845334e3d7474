use Rattle.schema_parsing.proofs.ObjectNodes.{object_shown}
use Rattle.schema_parsing.proofs.printing.+put.Goals as goal

pub put_schema-returns-in-Fields-clause-ok : goal.put_schema-returns-in-Fields-clause-ok
put_schema-returns-in-Fields-clause-ok t c = rw (object_shown c.args.node.now c.in-Fields.fields c.as_slice.result.now c.in-Fields.is c.as_slice.ensures) c.put_braced.ensures.ok
