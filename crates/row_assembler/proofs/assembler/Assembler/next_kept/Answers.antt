use Rattle.row_assembler.proofs.Places.{kept_sound}
use Rattle.row_assembler.proofs.assembler.Assembler.next_kept.Goals as goal

pub invariant_of-self : goal.invariant_of-self
invariant_of-self c = kept_sound c.self.inside.meta c.self.inside.node c.self.inside.places.items c.self.inside.cursors c.take_row.new.cursors c.self.invariant
