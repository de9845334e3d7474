use Rattle.std.proofs.Common.{◌∙◌, ◌<◌, length, arith}
use Rattle.chunks.proofs.PagesWritten.{light_ahead, some_taken, inside, one_page, all_written}
use Rattle.chunks.proofs.chunk_writing.write_chunk.Goals as goal

pub append_page-requires-clause-light : goal.append_page-requires-clause-light
append_page-requires-clause-light c = light_ahead c.args.leaf.now.phys c.args.entries.now c.loop-at.at c.requires.light

pub loop-at-smaller : goal.loop-at-smaller
loop-at-smaller c =
    let some = some_taken c.args.leaf.now c.args.page_bytes c.args.entries.now c.loop-at.at c.in_ok-at.field-0 c.loop-at-test.true c.in_ok-at.ensures.cut in
    let more : c.loop-at.at < length c.args.entries.now = c.loop-at-test.true in
    omega (arith, some, more)

pub loop-at-preserved : goal.loop-at-preserved
loop-at-preserved c = record {
  written = one_page c.args.leaf.now c.args.page_bytes c.args.entries.now c.loop-at.at c.in_ok-at.field-0 c.loop-at-test.true c.in_ok-at.ensures.cut c.loop-at.bytes.items c.append_page.new.into.items c.in_ok-at.ensures.page c.loop-at.invariant.written;
  inside = inside c.args.leaf.now c.args.page_bytes c.args.entries.now c.loop-at.at c.in_ok-at.field-0 c.loop-at-test.true c.in_ok-at.ensures.cut c.in_ok-at.ensures.within;
}

pub returns-in-Ok : goal.returns-in-Ok
returns-in-Ok c =
    c.in-Ok.ensures
    ∙ all_written c.args.leaf.now c.args.page_bytes c.args.entries.now c.loop-at.at c.loop-at.bytes.items (omega (arith, c.loop-at-test.false)) c.loop-at.invariant.written
