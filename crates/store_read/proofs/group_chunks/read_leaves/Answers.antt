use Rattle.std.proofs.Common.{◌<◌, ◌≤◌, ◌+◌, ◌∙◌, ap, length, subst, sym, arith, List}
use Rattle.vs_bytes.specs.declared.leaf_columns.Entry.{Entry}
use Rattle.shred_schema.specs.Ranges.{reads}
use Rattle.std.proofs.lemmas.List.{length_push}
use Rattle.store_read.specs.FileGroups.{rows_in}
use Rattle.store_read.proofs.GroupWalks.{GroupWalk, rows_more, leaves_begin, leaf_goes, leaf_lost, leaf_stops, leaves_end}
use Rattle.store_read.proofs.group_chunks.read_leaves.Goals as goal

pub loop-j-init : goal.loop-j-init
loop-j-init g c = record {
  walk = subst (λ (found : List (List Entry)). GroupWalk (g.S.Shelf.seen c.args.shelf.now) (g.S.Shelf.seen c.args.shelf.now) c.args.name.now (reads c.args.mask.now) c.args.end c.args.column.now c.args.group.now (length c.args.mask.now) 0 found) (sym c.new-leaves.ensures)
      (leaves_begin (g.S.Shelf.seen c.args.shelf.now) c.args.name.now (reads c.args.mask.now) c.args.end c.args.column.now c.args.group.now (length c.args.mask.now));
  count = ap length c.new-leaves.ensures;
  rows = λ k none. absurd (omega (arith, none));
}

pub returns-in-Err-push-clause-read : goal.returns-in-Err-push-clause-read
returns-in-Err-push-clause-read g c =
    let inside : c.loop-j.j < length c.args.mask.now = omega (arith, c.loop-j-test.true, c.len-j-end.ensures) in
    leaf_lost (g.S.Shelf.seen c.args.shelf.now) (g.S.Shelf.seen c.loop-j.shelf) (g.S.Shelf.seen c.next_leaf.new.shelf) c.args.name.now (reads c.args.mask.now) c.args.end c.args.column.now c.args.group.now (length c.args.mask.now) c.loop-j.j c.loop-j.leaves c.in-Ok.entries c.loop-j.invariant.walk inside c.in-Ok.ensures.read

pub returns-in-Err-clause-read : goal.returns-in-Err-clause-read
returns-in-Err-clause-read g c =
    let inside : c.loop-j.j < length c.args.mask.now = omega (arith, c.loop-j-test.true, c.len-j-end.ensures) in
    leaf_stops (g.S.Shelf.seen c.args.shelf.now) (g.S.Shelf.seen c.loop-j.shelf) (g.S.Shelf.seen c.next_leaf.new.shelf) c.args.name.now (reads c.args.mask.now) c.args.end c.args.column.now c.args.group.now (length c.args.mask.now) c.loop-j.j c.loop-j.leaves c.in-Err.stop c.loop-j.invariant.walk inside c.in-Err.ensures.read

pub loop-j-preserved : goal.loop-j-preserved
loop-j-preserved g c =
    let inside : c.loop-j.j < length c.args.mask.now = omega (arith, c.loop-j-test.true, c.len-j-end.ensures) in
    record {
      walk = leaf_goes (g.S.Shelf.seen c.args.shelf.now) (g.S.Shelf.seen c.loop-j.shelf) (g.S.Shelf.seen c.next_leaf.new.shelf) c.args.name.now (reads c.args.mask.now) c.args.end c.args.column.now c.args.group.now (length c.args.mask.now) c.loop-j.j c.loop-j.leaves c.push.new.self c.in-Ok.entries c.loop-j.invariant.walk inside c.in-Ok.ensures.read c.in-Ok-push.ensures.ok;
      count = ap length c.in-Ok-push.ensures.ok ∙ (length_push c.loop-j.leaves c.in-Ok.entries ∙ ap (λ n. n + 1) c.loop-j.invariant.count);
      rows = rows_more (reads c.args.mask.now) (rows_in c.args.group.now) c.loop-j.leaves c.push.new.self c.in-Ok.entries c.loop-j.j c.loop-j.invariant.count c.in-Ok-push.ensures.ok c.loop-j.invariant.rows c.in-Ok.ensures.rows;
    }

pub returns-clause-read : goal.returns-clause-read
returns-clause-read g c =
    let past : length c.args.mask.now ≤ c.loop-j.j = omega (arith, c.loop-j-test.false, c.len-j-end.ensures) in
    leaves_end (g.S.Shelf.seen c.args.shelf.now) (g.S.Shelf.seen c.loop-j.shelf) c.args.name.now (reads c.args.mask.now) c.args.end c.args.column.now c.args.group.now (length c.args.mask.now) c.loop-j.j c.loop-j.leaves c.loop-j.invariant.walk past
