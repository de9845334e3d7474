use Rattle.striping_laws.proofs.WrittenChunks.{rows_few, rows_light}
use Rattle.striping_laws.proofs.laws.entries_are_within_their_texts.Goals as goal

pub returns-clause-few : goal.returns-clause-few
returns-clause-few c = λ optional n total rows j all. rows_few optional n total rows j all

pub returns-clause-light : goal.returns-clause-light
returns-clause-light c = λ optional n total rows j other all inside. rows_light optional n total rows j other all inside
