use Rattle.std.proofs.Common.{◌≡◌, drop, map}
use Rattle.command_words.specs.Options.{are_known}
use Rattle.command_words.specs.Reading.{option_of}
use Rattle.command_words.proofs.options.are_known.Given as goal

abbrev pub invariant-loop-option : goal.invariant-loop-option
invariant-loop-option l = are_known (map (λ n. n.now) l.names) (map option_of (drop l.option-index l.options)) ≡ are_known (map (λ n. n.now) l.names) (map option_of l.options)
