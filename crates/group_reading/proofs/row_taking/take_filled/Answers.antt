use Rattle.std.proofs.Common.{sym, subst, ◌∙◌, ap}
use Rattle.shred_schema.specs.Views.{group_of, row_rec_of}
use Rattle.record_assembly.specs.Cuts.{is_nil}
use Rattle.row_assembler.specs.Assembly.{Assembly}
use Rattle.group_reading.specs.Filling.{joined, Held, Takes}
use Rattle.group_reading.proofs.TakenRows.{taken, refused, takes_filled, none_filled, taken_filled}
use Rattle.group_reading.proofs.row_taking.take_filled.Goals as goal

pub returns-in-Ok-Some : goal.returns-in-Ok-Some
returns-in-Ok-Some c =
    let held = c.in_ok-fill_leaves.ensures.held in
    let gives = rw c.in-Ok-Some.field-0-is at (c.in-Ok-Some.ensures.row c.args.column.now.optional (group_of c.args.column.now.node) c.args.mask.now held.column) in
    taken_filled c.args.column.now.optional (group_of c.args.column.now.node) c.args.mask.now c.args.assembler.now c.fill_leaves.new.assembler c.next_row.new.self c.args.chunks.now c.fill_leaves.new.chunks c.fill_leaves.new.chunks (row_rec_of c.in-Ok-Some.row) c.in_ok-fill_leaves.ensures.filled
    (taken c.args.column.now.optional (group_of c.args.column.now.node) c.args.mask.now c.fill_leaves.new.assembler c.fill_leaves.new.chunks held c.next_row.new.self (row_rec_of c.in-Ok-Some.row)
    (c.in-Ok-Some.ensures.column c.args.column.now.optional (group_of c.args.column.now.node) c.args.mask.now held.column) gives)

pub take_last-requires-clause-held : goal.take_last-requires-clause-held
take_last-requires-clause-held c =
    let held = c.in_ok-fill_leaves.ensures.held in
    let waits = rw c.in-Ok-None.field-0-is at (c.in-Ok-None.ensures.row c.args.column.now.optional (group_of c.args.column.now.node) c.args.mask.now held.column) in
    subst (λ (a : Assembly). Held c.args.column.now.optional (group_of c.args.column.now.node) c.args.mask.now a c.fill_leaves.new.chunks) (sym waits.same) held

pub take_last-requires-clause-some : goal.take_last-requires-clause-some
take_last-requires-clause-some c = λ j among read.
    let waits = rw c.in-Ok-None.field-0-is at (c.in-Ok-None.ensures.row c.args.column.now.optional (group_of c.args.column.now.node) c.args.mask.now c.in_ok-fill_leaves.ensures.held.column) in
    ap (λ (a : Assembly). is_nil (joined a c.fill_leaves.new.chunks j)) waits.same ∙ (ap is_nil (c.in_ok-fill_leaves.ensures.filled.same j) ∙ c.requires.some j among read)

pub returns-in-Ok-None : goal.returns-in-Ok-None
returns-in-Ok-None c =
    let waits = rw c.in-Ok-None.field-0-is at (c.in-Ok-None.ensures.row c.args.column.now.optional (group_of c.args.column.now.node) c.args.mask.now c.in_ok-fill_leaves.ensures.held.column) in
    takes_filled c.args.column.now.optional (group_of c.args.column.now.node) c.args.mask.now c.args.assembler.now c.fill_leaves.new.assembler c.take_last.new.assembler c.args.chunks.now c.fill_leaves.new.chunks c.take_last.new.chunks c.take_last.result c.in_ok-fill_leaves.ensures.filled
    (subst (λ (a : Assembly). Takes c.args.column.now.optional (group_of c.args.column.now.node) c.args.mask.now (joined a c.fill_leaves.new.chunks) c.take_last.new.assembler c.take_last.new.chunks c.take_last.result) waits.same c.take_last.ensures)

pub returns-in-Err : goal.returns-in-Err
returns-in-Err c =
    let held = c.in_ok-fill_leaves.ensures.held in
    none_filled c.args.column.now.optional (group_of c.args.column.now.node) c.args.mask.now c.args.assembler.now c.fill_leaves.new.assembler c.args.chunks.now c.fill_leaves.new.chunks c.in-Err.refusal c.in_ok-fill_leaves.ensures.filled
    (refused c.args.column.now.optional (group_of c.args.column.now.node) c.args.mask.now c.fill_leaves.new.assembler c.fill_leaves.new.chunks held c.next_row.new.self c.in-Err.refusal
    (c.in-Err.ensures.row c.args.column.now.optional (group_of c.args.column.now.node) c.args.mask.now held.column))
