use Rattle.std.proofs.Common.{◌≡◌, ◌+◌, ◌≤◌, length}
use Rattle.json_lines.specs.Cut.{lines_of}
use Rattle.json_lines.specs.Next.{is_decided}
use Rattle.json_lines.specs.Takings.{Passed}
use Rattle.json_lines.proofs.line_reader.Lines.pass_blank.Given as goal

abbrev pub invariant-loop-at : goal.invariant-loop-at
invariant-loop-at l = record {
  kept : l.self.kept ≡ l.fn.self.kept;
  passed : Passed l.fn.self l.fn.self.held l.self l.self.held;
  decided : is_decided (lines_of l.self.room l.self.held) ≡ is_decided (lines_of l.fn.self.room l.fn.self.held);
  room : l.self.room ≤ l.fn.self.room;
  gap : l.self.room + length l.fn.self.held ≡ l.fn.self.room + length l.self.held;
}

abbrev pub decreases-loop-at : goal.decreases-loop-at
decreases-loop-at l = length l.self.held
