use Rattle.std.proofs.Common.{◌≡◌, drop, map}
use Rattle.std.specs.Option.{option_map}
use Rattle.command_words.specs.Options.{values_of}
use Rattle.command_words.specs.Reading.{option_of}
use Rattle.command_words.proofs.Values.{found_before}
use Rattle.command_words.proofs.options.value_of.Given as goal

abbrev pub invariant-loop-option : goal.invariant-loop-option
invariant-loop-option l = found_before (option_map (λ v. v.now) l.found) (values_of l.name (map option_of (drop l.option-index l.options))) ≡ values_of l.name (map option_of l.options)
