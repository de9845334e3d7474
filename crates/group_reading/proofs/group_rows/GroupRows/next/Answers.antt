use Rattle.std.proofs.Common.{◌≡◌, ◌∙◌, suc, ◌+◌, ◌-◌, refl, sym, ap, subst, List, Option, Err, arith}
use Rattle.std.specs.Option.{option_map}
use Rattle.std.specs.Vec.{with_items}
use Rattle.json_tree.specs.Json.{Json}
use Rattle.json_tree.specs.View.{view}
use Rattle.json_tree.specs.declared.types.Tree.{Tree}
use Rattle.vs_bytes.specs.Outcome.{Makes}
use Rattle.vs_bytes.specs.declared.leaf_columns.Entry.{Entry}
use Rattle.shred_schema.specs.Ranges.{reads}
use Rattle.shred_schema.specs.Views.{group_of}
use Rattle.record_assembly.specs.Cuts.{is_nil, later_items}
use Rattle.group_reading.specs.Filling.{joined, Held}
use Rattle.group_reading.specs.GroupRows.{next_seen}
use Rattle.group_reading.proofs.RowsLeft.{stands_some, held_with, gives_row, ahead_end, next_refused}
use Rattle.group_reading.proofs.group_rows.GroupRows.next.Goals as goal

pub returns-then-self-eq0 : goal.returns-then-self-eq0
returns-then-self-eq0 c = record {
  none = ahead_end c.args.column.now.optional (group_of c.args.column.now.node) c.args.mask.now c.args.self.now c.if-self-eq0.true;
  same = refl;
}

pub next_row-requires-clause-some : goal.next_row-requires-clause-some
next_row-requires-clause-some c =
    let more : c.args.self.now.left ≡ suc (c.args.self.now.left - 1) = omega arith in
    λ j among read.
    ap (λ (chunks : List (List Entry)). is_nil (joined c.args.self.now.assembler chunks j)) c.deref_mut.ensures.value
    ∙ stands_some c.args.column.now.optional (group_of c.args.column.now.node) c.args.mask.now c.args.self.now (c.args.self.now.left - 1) c.requires.stands more j among read

pub returns-in-Ok : goal.returns-in-Ok
returns-in-Ok c =
    let fewer : c.args.self.now.left - 1 + 1 ≡ c.args.self.now.left = omega arith in
    let there = c.deref_mut.ensures.value in
    let held = c.in-Ok.ensures.held in
    let back : (with_items c.args.self.now.leaves c.next_row.new.chunks).items ≡ c.next_row.new.chunks = held_with c.args.column.now.optional (group_of c.args.column.now.node) c.args.mask.now c.args.self.now.assembler c.next_row.new.assembler c.args.self.now.leaves c.next_row.new.chunks c.requires.stands.held held in
    gives_row c.args.column.now.optional (group_of c.args.column.now.node) c.args.mask.now c.args.self.now _ (option_map view c.in-Ok.row) c.requires.stands refl
    (subst (λ (chunks : List (List Entry)). Held c.args.column.now.optional (group_of c.args.column.now.node) c.args.mask.now c.next_row.new.assembler chunks) (sym back) held)
    (λ j among read. ap (λ (chunks : List (List Entry)). joined c.next_row.new.assembler chunks j) back ∙ (c.in-Ok.ensures.after j among read ∙ ap (λ (chunks : List (List Entry)). later_items 0 (joined c.args.self.now.assembler chunks j)) there))
    fewer refl
    (ap (λ (chunks : List (List Entry)). next_seen (reads c.args.mask.now) c.args.column.now.optional (group_of c.args.column.now.node) (joined c.args.self.now.assembler chunks)) (sym there) ∙ c.in-Ok.ensures.exact)

pub returns-in-Err : goal.returns-in-Err
returns-in-Err c =
    let more : c.args.self.now.left ≡ suc (c.args.self.now.left - 1) = omega arith in
    next_refused c.args.column.now.optional (group_of c.args.column.now.node) c.args.mask.now c.args.self.now (c.args.self.now.left - 1) c.in-Err.refusal c.at_row.result more c.at_row.ensures
    (subst (λ (chunks : List (List Entry)). Makes {A = Option Tree} {B = Option Json} (option_map view) (Err c.in-Err.refusal) (next_seen (reads c.args.mask.now) c.args.column.now.optional (group_of c.args.column.now.node) (joined c.args.self.now.assembler chunks))) c.deref_mut.ensures.value c.in-Err.ensures.exact)
