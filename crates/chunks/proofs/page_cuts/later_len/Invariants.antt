use Rattle.std.proofs.Common.{◌≡◌, ◌+◌, drop}
use Rattle.pages.specs.Written.{weights}
use Rattle.chunks.specs.PageCuts.{later_len}
use Rattle.chunks.proofs.page_cuts.later_len.Given as goal

abbrev pub invariant-loop-entry : goal.invariant-loop-entry
invariant-loop-entry l = record {
  count : l.len + later_len l.leaf.phys l.page_bytes l.held (drop l.entry-index l.later) ≡ later_len l.leaf.phys l.page_bytes l.before l.later;
  at : l.len ≡ l.entry-index;
  weight : l.held + weights l.leaf.phys (drop l.entry-index l.later) ≡ l.before + weights l.leaf.phys l.later;
}
