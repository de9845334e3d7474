use Rattle.record_assembly.proofs.Complete.{complete}
use Rattle.record_assembly.proofs.Sound.{sound}
use Rattle.record_assembly.proofs.laws.records_are_read.Goals as goal

pub returns-clause-comes : goal.returns-clause-comes
returns-clause-comes c = λ n k mask r m d es x of have. complete n k mask r m d es x of have

pub returns-clause-only : goal.returns-clause-only
returns-clause-only c = λ n k mask r m d es q h. let f = sound n k mask r m d es q h in record { one = f.one; of = f.of; have = λ j a y. f.agree j (a, y); left = f.is }
