use Rattle.std.proofs.Common.{◌∙◌, ◌+◌, take, sym, arith}
use Rattle.json_lines.proofs.Ranges.{written_front, range_length}
use Rattle.json_lines.proofs.read_buffer.read_at.Goals as goal

pub returns-in-Ok-clause-reads : goal.returns-in-Ok-clause-reads
returns-in-Ok-clause-reads g c =
    let into = c.read.new.into in
    let whole = c.read.auto.into ∙ range_length c.args.bytes.now c.args.from (c.args.from + c.args.size) (omega arith) in
    record {
      bytes = take c.in-Ok.count into;
      grown = written_front c.args.bytes.now into _ c.args.from c.in-Ok.count (omega arith) c.in-Ok.ensures.reads.within;
      size = sym c.in-Ok.ensures.reads.size;
      taken = c.in-Ok.ensures.reads.taken;
      end = c.in-Ok.ensures.reads.end;
      calm = c.in-Ok.ensures.reads.calm;
    }
