use Rattle.std.proofs.Common.{◌≡◌, take}
use Rattle.store_write.specs.Made.{orders_of}
use Rattle.store_write.proofs.file_writer.type_orders.Given as goal

abbrev pub invariant-loop-path : goal.invariant-loop-path
invariant-loop-path l = l.orders ≡ orders_of (take l._path-index l.paths)
