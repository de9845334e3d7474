use Rattle.std.proofs.Common.{◌∙◌, sym, ap, subst}
use Rattle.shred_schema.specs.Views.{group_of, row_rec_of}
use Rattle.record_assembly.specs.Cuts.{is_nil}
use Rattle.row_assembler.specs.Assembly.{Assembly}
use Rattle.group_reading.specs.Filling.{joined, Held, Takes}
use Rattle.group_reading.proofs.TakenRows.{taken, refused}
use Rattle.group_reading.proofs.row_taking.take_row.Goals as goal

pub returns-in-Ok-Some : goal.returns-in-Ok-Some
returns-in-Ok-Some c =
    let held = c.requires.held in
    let gives = rw c.in-Ok-Some.field-0-is at (c.in-Ok-Some.ensures.row c.args.column.now.optional (group_of c.args.column.now.node) c.args.mask.now held.column) in
    taken c.args.column.now.optional (group_of c.args.column.now.node) c.args.mask.now c.args.assembler.now c.args.chunks.now held c.next_row.new.self (row_rec_of c.in-Ok-Some.row)
    (c.in-Ok-Some.ensures.column c.args.column.now.optional (group_of c.args.column.now.node) c.args.mask.now held.column) gives

pub take_filled-requires-clause-held : goal.take_filled-requires-clause-held
take_filled-requires-clause-held c =
    let held = c.requires.held in
    let waits = rw c.in-Ok-None.field-0-is at (c.in-Ok-None.ensures.row c.args.column.now.optional (group_of c.args.column.now.node) c.args.mask.now held.column) in
    subst (λ (a : Assembly). Held c.args.column.now.optional (group_of c.args.column.now.node) c.args.mask.now a c.args.chunks.now) (sym waits.same) held

pub take_filled-requires-clause-some : goal.take_filled-requires-clause-some
take_filled-requires-clause-some c = λ j among read.
    let waits = rw c.in-Ok-None.field-0-is at (c.in-Ok-None.ensures.row c.args.column.now.optional (group_of c.args.column.now.node) c.args.mask.now c.requires.held.column) in
    ap (λ (a : Assembly). is_nil (joined a c.args.chunks.now j)) waits.same ∙ c.requires.some j among read

pub returns-in-Ok-None : goal.returns-in-Ok-None
returns-in-Ok-None c =
    let waits = rw c.in-Ok-None.field-0-is at (c.in-Ok-None.ensures.row c.args.column.now.optional (group_of c.args.column.now.node) c.args.mask.now c.requires.held.column) in
    subst (λ (a : Assembly). Takes c.args.column.now.optional (group_of c.args.column.now.node) c.args.mask.now (joined a c.args.chunks.now) c.take_filled.new.assembler c.take_filled.new.chunks c.take_filled.result) waits.same c.take_filled.ensures

pub returns-in-Err : goal.returns-in-Err
returns-in-Err c =
    refused c.args.column.now.optional (group_of c.args.column.now.node) c.args.mask.now c.args.assembler.now c.args.chunks.now c.requires.held c.next_row.new.self c.in-Err.refusal
    (c.in-Err.ensures.row c.args.column.now.optional (group_of c.args.column.now.node) c.args.mask.now c.requires.held.column)
