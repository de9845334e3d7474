use Rattle.std.proofs.Common.{◌∙◌, ℕ, ap, subst, refl, List}
use Rattle.vs_bytes.specs.declared.leaf_columns.Entry.{Entry}
use Rattle.shred_schema.specs.Views.{group_of, row_rec_of}
use Rattle.record_assembly.specs.Cuts.{is_nil}
use Rattle.group_reading.specs.Filling.{Taken, TakesNone}
use Rattle.group_reading.proofs.TakenRows.{taken, refused, held_ended, filled_ended, never_waits}
use Rattle.group_reading.proofs.row_taking.take_last.Goals as goal

pub unreachable-requires : goal.unreachable-requires
unreachable-requires c =
    let before = c.in_ok-fill_leaves.ensures.held in
    let column = c.end.ensures.column c.args.column.now.optional (group_of c.args.column.now.node) c.args.mask.now before.column in
    let held = held_ended c.args.column.now.optional (group_of c.args.column.now.node) c.args.mask.now c.fill_leaves.new.assembler c.end.new.self c.fill_leaves.new.chunks before column c.end.ensures.ended (c.in_ok-fill_leaves.ensures.spent refl) in
    let same = filled_ended c.args.assembler.now c.fill_leaves.new.assembler c.end.new.self c.args.chunks.now c.fill_leaves.new.chunks c.in_ok-fill_leaves.ensures.filled c.end.ensures.ended in
    let waits = rw c.in-Ok-None.field-0-is at (c.in-Ok-None.ensures.row c.args.column.now.optional (group_of c.args.column.now.node) c.args.mask.now column) in
    never_waits c.args.column.now.optional (group_of c.args.column.now.node) c.args.mask.now c.end.new.self c.fill_leaves.new.chunks held c.next_row.new.self (ap (λ a. a.ended) c.end.ensures.ended)
    (λ j among read. ap (λ (es : ℕ → List Entry). is_nil (es j)) same ∙ c.requires.some j among read) waits

pub returns-in-Ok-Some : goal.returns-in-Ok-Some
returns-in-Ok-Some c =
    let before = c.in_ok-fill_leaves.ensures.held in
    let column = c.end.ensures.column c.args.column.now.optional (group_of c.args.column.now.node) c.args.mask.now before.column in
    let held = held_ended c.args.column.now.optional (group_of c.args.column.now.node) c.args.mask.now c.fill_leaves.new.assembler c.end.new.self c.fill_leaves.new.chunks before column c.end.ensures.ended (c.in_ok-fill_leaves.ensures.spent refl) in
    let same = filled_ended c.args.assembler.now c.fill_leaves.new.assembler c.end.new.self c.args.chunks.now c.fill_leaves.new.chunks c.in_ok-fill_leaves.ensures.filled c.end.ensures.ended in
    let gives = rw c.in-Ok-Some.field-0-is at (c.in-Ok-Some.ensures.row c.args.column.now.optional (group_of c.args.column.now.node) c.args.mask.now column) in
    subst (λ (es : ℕ → List Entry). Taken c.args.column.now.optional (group_of c.args.column.now.node) c.args.mask.now es c.next_row.new.self c.fill_leaves.new.chunks (row_rec_of c.in-Ok-Some.row)) same
    (taken c.args.column.now.optional (group_of c.args.column.now.node) c.args.mask.now c.end.new.self c.fill_leaves.new.chunks held c.next_row.new.self (row_rec_of c.in-Ok-Some.row)
    (c.in-Ok-Some.ensures.column c.args.column.now.optional (group_of c.args.column.now.node) c.args.mask.now column) gives)

pub returns-in-Err : goal.returns-in-Err
returns-in-Err c =
    let before = c.in_ok-fill_leaves.ensures.held in
    let column = c.end.ensures.column c.args.column.now.optional (group_of c.args.column.now.node) c.args.mask.now before.column in
    let held = held_ended c.args.column.now.optional (group_of c.args.column.now.node) c.args.mask.now c.fill_leaves.new.assembler c.end.new.self c.fill_leaves.new.chunks before column c.end.ensures.ended (c.in_ok-fill_leaves.ensures.spent refl) in
    let same = filled_ended c.args.assembler.now c.fill_leaves.new.assembler c.end.new.self c.args.chunks.now c.fill_leaves.new.chunks c.in_ok-fill_leaves.ensures.filled c.end.ensures.ended in
    subst (λ (es : ℕ → List Entry). TakesNone c.args.column.now.optional (group_of c.args.column.now.node) c.args.mask.now es c.in-Err.refusal) same
    (refused c.args.column.now.optional (group_of c.args.column.now.node) c.args.mask.now c.end.new.self c.fill_leaves.new.chunks held c.next_row.new.self c.in-Err.refusal
    (c.in-Err.ensures.row c.args.column.now.optional (group_of c.args.column.now.node) c.args.mask.now column))
