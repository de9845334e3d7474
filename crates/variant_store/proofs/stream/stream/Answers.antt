use Rattle.outside.specs.Output.{output_of}
use Rattle.json_documents.specs.Input.{GivesAll, Stops}
use Rattle.variant_store.proofs.StreamEnds.{gives_begins, stops_begins, calm_later, faulted_later, stream_cut, unprinted_cut}
use Rattle.variant_store.proofs.stream.stream.Goals as goal

pub returns-in-Ok-clause-streams : goal.returns-in-Ok-clause-streams
returns-in-Ok-clause-streams g c =
    let left = (g.I.Source.seen c.hand_on.new.source).bytes in
    stream_cut (g.P.Printer.stream c.args.printer) (g.P.Printer.stream c.hand_on.new.taker.printer) (g.I.Source.seen c.args.input.now) (g.I.Source.seen c.hand_on.new.source) (output_of (g.O.Sink.seen c.args.out.now) c.new.result.pending.items) (output_of (g.O.Sink.seen c.hand_on.new.device) c.hand_on.new.taker.output.pending.items)
    (output_of (g.O.Sink.seen c.flush.new.sink) c.flush.new.self.pending.items) c.in-Err.fault (λ input documents. GivesAll input left documents) c.new.ensures c.in-Ok.ensures.hands.0 (λ input documents given. gives_begins input left documents given) c.in-Err.ensures.puts (calm_later (g.I.Source.seen c.args.input.now) (g.I.Source.seen c.hand_on.new.source) c.in-Ok.ensures.hands.1)

pub returns-in-Err-Input-clause-streams : goal.returns-in-Err-Input-clause-streams
returns-in-Err-Input-clause-streams g c =
    let left = (g.I.Source.seen c.hand_on.new.source).bytes in
    let hands = rw c.in-Err-Input.field-0-is at c.in-Err-Input.ensures.hands in
    stream_cut (g.P.Printer.stream c.args.printer) (g.P.Printer.stream c.hand_on.new.taker.printer) (g.I.Source.seen c.args.input.now) (g.I.Source.seen c.hand_on.new.source) (output_of (g.O.Sink.seen c.args.out.now) c.new.result.pending.items) (output_of (g.O.Sink.seen c.hand_on.new.device) c.hand_on.new.taker.output.pending.items)
    (output_of (g.O.Sink.seen c.flush-in-Err-Input.new.sink) c.flush-in-Err-Input.new.self.pending.items) c.in-Err-flush.fault (λ input documents. Stops input left documents c.in-Err-Input.why) c.new.ensures hands.0 (λ input documents given. stops_begins input left documents c.in-Err-Input.why given) c.in-Err-flush.ensures.puts (faulted_later (g.I.Source.seen c.args.input.now) (g.I.Source.seen c.hand_on.new.source) c.in-Err-Input.why hands.1)

pub returns-in-Err-Taker-NoMemory-clause-streams : goal.returns-in-Err-Taker-NoMemory-clause-streams
returns-in-Err-Taker-NoMemory-clause-streams g c =
    let taker = rw c.in-Err-Taker-NoMemory.field-0-is at c.in-Err-Taker-NoMemory.ensures.hands in
    let hands = rw c.in-Err-Taker-NoMemory.field-0-0-is at taker in
    unprinted_cut (g.P.Printer.stream c.args.printer) (g.I.Source.seen c.args.input.now) (g.I.Source.seen c.hand_on.new.source) (output_of (g.O.Sink.seen c.args.out.now) c.new.result.pending.items) (output_of (g.O.Sink.seen c.hand_on.new.device) c.hand_on.new.taker.output.pending.items)
    (output_of (g.O.Sink.seen c.flush-in-Err-Taker-NoMemory.new.sink) c.flush-in-Err-Taker-NoMemory.new.self.pending.items) c.in-Err-flush-2.fault c.new.ensures hands.0 c.in-Err-flush-2.ensures.puts hands.1
