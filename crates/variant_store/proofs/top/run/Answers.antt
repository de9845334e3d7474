use Rattle.json_documents.proofs.Calling.{nothing_read}
use Rattle.command_parsing.specs.Commands.{load_of}
use Rattle.variant_store.proofs.LoadWords.{load_has_text, load_has_pages}
use Rattle.variant_store.proofs.top.run.Goals as goal

pub returns-in-Err-clause-bounded : goal.returns-in-Err-clause-bounded
returns-in-Err-clause-bounded g c = λ input e. nothing_read input _ e

pub load-requires : goal.load-requires
load-requires g c = record {
  schema = load_has_text c.args.words.now (load_of c.in-Ok-Load.asked) (rw c.in-Ok-Load.field-0-is at c.in-Ok-Load.ensures);
  pages = load_has_pages c.args.words.now (load_of c.in-Ok-Load.asked) (rw c.in-Ok-Load.field-0-is at c.in-Ok-Load.ensures);
}

pub returns-in-Ok-Query-clause-bounded : goal.returns-in-Ok-Query-clause-bounded
returns-in-Ok-Query-clause-bounded g c = λ input e. nothing_read input _ e

pub returns-in-Ok-Check-clause-bounded : goal.returns-in-Ok-Check-clause-bounded
returns-in-Ok-Check-clause-bounded g c = λ input e. nothing_read input _ e
