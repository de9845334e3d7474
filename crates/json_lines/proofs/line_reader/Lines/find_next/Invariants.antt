use Rattle.std.proofs.Common.{◌≡◌, ◌+◌, ◌-◌, ◌≤◌, true, length, List, ℕ, Some}
use Rattle.outside.specs.Devices.{IsCalm}
use Rattle.json_lines.specs.Cut.{lines_of}
use Rattle.json_lines.specs.Next.{is_decided}
use Rattle.json_lines.specs.Takings.{PassedFrom}
use Rattle.json_lines.proofs.line_reader.Lines.find_next.Given as goal

abbrev pub invariant-loop-at : goal.invariant-loop-at
invariant-loop-at g l = record {
  kept : l.self.kept ≡ l.fn.self.kept;
  passed : (rest : List ℕ) → (g.S.Source.seen l.fn.source).bytes ≡ Some rest → PassedFrom l.fn.self rest l.self (g.S.Source.seen l.source).bytes;
  room : l.self.room ≤ l.fn.self.room;
  decided : is_decided (lines_of l.fn.self.room l.fn.self.held) ≡ true → (l.source ≡ l.fn.source) × (is_decided (lines_of l.self.room l.self.held) ≡ true);
  calm : IsCalm (g.S.Source.seen l.fn.source) (g.S.Source.seen l.source);
}

-- a pass over blank lines keeps it, and a read makes it less
abbrev pub decreases-loop-at : goal.decreases-loop-at
decreases-loop-at g l = l.self.room + 1 - length l.self.held
