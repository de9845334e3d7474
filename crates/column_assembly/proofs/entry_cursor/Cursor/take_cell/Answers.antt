use Rattle.column_assembly.proofs.OneEntry.{if_some, taken_passed}
use Rattle.column_assembly.proofs.entry_cursor.Cursor.take_cell.Goals as goal

pub returns-clause-next : goal.returns-clause-next
returns-clause-next c = if_some c.take-cell.result _ (taken_passed c.args.rep c.args.def c.args.lists c.self.inside.at c.self.inside.entries.items c.left.result.now c.args.self.now _ c.self.view_is c.left.ensures c.if-not-is_one.ensures)
