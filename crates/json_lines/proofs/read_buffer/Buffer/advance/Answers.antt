use Rattle.std.proofs.Common.{◌≡◌, ◌∙◌, ◌-◌, List, ℕ, length, drop, sym, ap, arith}
use Rattle.json_lines.specs.Buffer.{Buffered}
use Rattle.json_lines.proofs.Ranges.{range_drop, range_length}
use Rattle.json_lines.proofs.read_buffer.Buffer.advance.Goals as goal

pub returns : goal.returns
returns c =
    let b = c.self.inside in
    let held = ap (λ (s : Buffered). s.held) c.self.view_is in
    let size : length c.args.self.now.held ≡ b.end - b.start = ap length (sym held) ∙ range_length b.bytes.items b.start b.end (omega arith) in
    range_drop b.bytes.items b.start c.args.count b.end (omega arith) ∙ ap (λ (s : List ℕ). drop c.args.count s) held
