use Rattle.std.proofs.Common.{◌≡◌, length}
use Rattle.json_strings.specs.Content.{plain_state, quote_from}
use Rattle.json_strings.specs.Shown.{state}
use Rattle.json_strings.proofs.reader.read_escaped.Given as goal

abbrev pub invariant-loop-first : goal.invariant-loop-first
invariant-loop-first l = quote_from (state l.content) l.rest ≡ quote_from (plain_state l.fn.run) l.fn.text

abbrev pub decreases-loop-first : goal.decreases-loop-first
decreases-loop-first l = length l.rest
