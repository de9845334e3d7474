use Rattle.std.proofs.lemmas.List.Elements.{recursion_from_All}
use Rattle.plain_values.specs.Written.{IsCell}
use Rattle.plain_values.proofs.ReadBack.{plain_back}
use Rattle.plain_values.proofs.laws.written_cells_read_back.Goals as goal

pub returns : goal.returns
returns c = λ type kind cs more h. plain_back type kind cs more (recursion_from_All (IsCell type kind) cs h)
