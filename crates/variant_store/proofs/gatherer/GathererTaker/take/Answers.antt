use Rattle.std.proofs.Common.{Ok, Err}
use Rattle.json_tree.specs.View.{view}
use Rattle.outside.specs.Output.{output_of}
use Rattle.variant_store.proofs.Gathering.{takes_more}
use Rattle.variant_store.proofs.gatherer.GathererTaker.take.Goals as goal

pub returns-in-Ok-flush_piece-clause-takes : goal.returns-in-Ok-flush_piece-clause-takes
returns-in-Ok-flush_piece-clause-takes g c = λ start first documents took.
    takes_more (g.P.Printer.stream start.printer) (g.P.Printer.stream c.args.self.now.printer) (g.P.Printer.stream c.print.new.self) (output_of (g.O.Sink.seen first) start.output.pending.items) (output_of (g.O.Sink.seen c.args.out.now) c.args.self.now.output.pending.items)
    (output_of (g.O.Sink.seen c.flush_piece.new.sink) c.flush_piece.new.self.pending.items) documents (view c.args.document.now) c.print.new.into.items (Ok tt) took c.in-Ok.ensures.same c.in-Ok.ensures.ok c.in-Ok-flush_piece.ensures.puts

pub returns-in-Err-flush_piece-clause-takes : goal.returns-in-Err-flush_piece-clause-takes
returns-in-Err-flush_piece-clause-takes g c = λ start first documents took.
    takes_more (g.P.Printer.stream start.printer) (g.P.Printer.stream c.args.self.now.printer) (g.P.Printer.stream c.print.new.self) (output_of (g.O.Sink.seen first) start.output.pending.items) (output_of (g.O.Sink.seen c.args.out.now) c.args.self.now.output.pending.items)
    (output_of (g.O.Sink.seen c.flush_piece.new.sink) c.flush_piece.new.self.pending.items) documents (view c.args.document.now) c.print.new.into.items (Err c.in-Err-flush_piece.fault) took c.in-Ok.ensures.same c.in-Ok.ensures.ok c.in-Err-flush_piece.ensures.puts

pub returns-in-Err-clause-takes : goal.returns-in-Err-clause-takes
returns-in-Err-clause-takes g c = λ start first documents took. rw c.in-Err.ensures.err took.sends
