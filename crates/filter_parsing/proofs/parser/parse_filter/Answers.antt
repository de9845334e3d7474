use Rattle.query_tree.specs.View.{formula_of}
use Rattle.filter_parsing.proofs.ParserWhole.{reads_filter, refused_is}
use Rattle.filter_parsing.proofs.parser.parse_filter.Goals as goal

pub returns-in-Ok : goal.returns-in-Ok
returns-in-Ok c = record { parses = reads_filter c.args.text.now (formula_of c.in-Ok.filter) (rw (← c.as_bytes.ensures.value) c.in-Ok.ensures) }

pub returns-in-Err : goal.returns-in-Err
returns-in-Err c = record { parses = refused_is formula_of formula_of c.in-Err.refused c.args.text.now (rw (← c.as_bytes.ensures.value) c.in-Err.ensures) }
