use Rattle.std.proofs.Common.{arith}
use Rattle.shred_schema.specs.Views.{kind_of}
use Rattle.level_striping.proofs.Counted.{absent_count}
use Rattle.level_striping.proofs.counting.absent_total.Goals as goal

pub returns : goal.returns
returns c = omega (arith, absent_count (kind_of c.args.typed.now))
