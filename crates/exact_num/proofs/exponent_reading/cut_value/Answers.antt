use Rattle.std.proofs.Common.{arith}
use Rattle.std.proofs.lemmas.Grind.{common_steps}
use Rattle.exact_num.proofs.Cutting.{cut_next}
use Rattle.exact_num.proofs.exponent_reading.cut_value.Goals as goal

pub loop-byte-preserved : goal.loop-byte-preserved
loop-byte-preserved c = record {
  digits = grind (arith, common_steps);
  value = grind (arith, common_steps, cut_next);
  size = omega arith;
}
