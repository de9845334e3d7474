use Rattle.std.proofs.Common.{arith}
use Rattle.variant_write.proofs.ChosenMembers.{chosen_short, chosen_depth, chosen_named, chosen_rise, chosen_ordered, chosen_valid}
use Rattle.variant_write.proofs.laws.chosen_members_keep.Goals as goal

pub returns : goal.returns
returns c = record {
  short = chosen_short;
  depth = λ kept fields. omega (arith, chosen_depth kept fields);
  names = chosen_named;
  ordered = λ kept fields h. (chosen_rise kept fields h.0, chosen_ordered kept fields h.1);
  valid = λ kept fields h. (chosen_rise kept fields h.0, chosen_valid kept fields h.1);
}
