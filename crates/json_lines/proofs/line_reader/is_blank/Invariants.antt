use Rattle.std.proofs.Common.{◌≡◌, drop}
use Rattle.std.specs.List.{list_all}
use Rattle.json_lines.specs.Cut.{is_blank_byte}
use Rattle.json_lines.proofs.line_reader.is_blank.Given as goal

abbrev pub invariant-loop-byte : goal.invariant-loop-byte
invariant-loop-byte l = list_all is_blank_byte (drop l.byte-index l.line) ≡ list_all is_blank_byte l.line
