-- What the words after `variant` give.
use Rattle.std.specs.Prelude.{◌==◌, ℕ, length, List, [], ◌∷◌, ◌&&◌, if◌then◌else◌, codes, Option, None}
use Rattle.byte_parsing.specs.Parse.{and_then}
use Rattle.command_words.specs.Arguments.{Arguments, arguments_of}
use Rattle.command_words.specs.Options.{are_known}
use Rattle.command_words.specs.Widths.{WidthsGiven, widths_given}

-- both widths may be given, and no operand
abbrev pub variant_given : Arguments → Option WidthsGiven
variant_given given =
    if are_known (codes "--offset-width" ∷ (codes "--id-width" ∷ [])) given.options && (length given.operands == 0) then widths_given given.options else None

-- what the words after `variant` give, or none where they aren't its words
abbrev pub variant_words : List (List ℕ) → Option WidthsGiven
variant_words words = and_then (arguments_of words) variant_given
