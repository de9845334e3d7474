use Rattle.std.proofs.Common.{Ok}
use Rattle.file_columns.specs.Views.{shown}
use Rattle.thrift_footer.specs.Opening.{opening_ranges}
use Rattle.thrift_footer.proofs.Asking.{asks_unheld}
use Rattle.store_file.proofs.Beginning.{begun, begins_fails, no_column, column_asked}
use Rattle.store_file.proofs.store_file.StoreFile.begin.Goals as goal

pub returns-in-Err-clause-begins : goal.returns-in-Err-clause-begins
returns-in-Err-clause-begins g c = λ file known. begins_fails file c.args.column_name.now c.in-Err.fault (c.in-Err.ensures.exact file known)

pub returns-in-Err-column-clause-begins : goal.returns-in-Err-column-clause-begins
returns-in-Err-column-clause-begins g c = λ file known.
    no_column file c.args.column_name.now c.in-Ok.opened c.in-Err-column.refusal c.open_fault.result (c.in-Ok.ensures.exact file known) c.in-Err-column.ensures.exact c.open_fault.ensures

pub returns-in-Err-column-clause-asks : goal.returns-in-Err-column-clause-asks
returns-in-Err-column-clause-asks g c = column_asked _ _ c.args.name (opening_ranges c.args.name) c.in-Ok.opened c.in-Err-column.refusal c.open_fault.result c.in-Ok.ensures.asks c.open_fault.ensures

pub returns-in-Ok-full_mask-clause-begins : goal.returns-in-Ok-full_mask-clause-begins
returns-in-Ok-full_mask-clause-begins g c = λ file known.
    begun file c.args.column_name.now c.in-Ok.opened (Ok (shown c.in-Ok-column.column)) (c.in-Ok.ensures.exact file known) c.in-Ok-column.ensures.exact

pub returns-in-Err-full_mask-clause-asks : goal.returns-in-Err-full_mask-clause-asks
returns-in-Err-full_mask-clause-asks g c = asks_unheld _ _ c.args.name (opening_ranges c.args.name) c.in-Ok.opened c.in-Ok.ensures.asks
