use Rattle.std.proofs.Common.{◌≡◌, ◌-◌, ◌<◌, length}
use Rattle.variant_meta.specs.MetaRefs.{names_of}
use Rattle.variant_read.specs.Judging.{AllAllowed}
use Rattle.variant_read.specs.Layout.{field_id}
use Rattle.variant_read.proofs.ids.judge_field_ids.Given as goal

abbrev pub invariant-loop-k : goal.invariant-loop-k
invariant-loop-k g l = record {
  before : 0 < l.k → l.before ≡ field_id l.layout.bytes.now (l.k - 1);
  known : 0 < l.k → l.before < length (names_of l.meta);
  allowed : AllAllowed (names_of l.meta) l.layout.bytes.now l.k;
}
