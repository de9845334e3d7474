-- What words ask for, by what they give: how the readers of words answer.
use Rattle.std.specs.Prelude.{◌≡◌, Option, Some, None, Result, Ok, Err}
use Rattle.command_parsing.specs.declared.fault.BadWords.{BadWords}
use Rattle.command_parsing.specs.declared.fault.BadWords.TheVariants.{Usage}
use Rattle.command_parsing.specs.declared.fault.WordsFault.{WordsFault}
use Rattle.command_parsing.specs.declared.fault.WordsFault.TheVariants.{Wrong, NoMemory}

-- the words are the command's, and this holds of what they give
abbrev pub Asks : {G : Type 0} → Option G → (G → Type 0) → Type 0
Asks None Holds = ⊥
Asks (Some given) Holds = Holds given

-- they aren't the command's, or what they give is wrong
abbrev pub IsWrong : {G : Type 0} → Option G → (G → BadWords → Type 0) → BadWords → Type 0
IsWrong None IsBad bad = bad ≡ Usage
IsWrong (Some given) IsBad bad = IsBad given bad

-- nothing can be wrong with what words give
abbrev pub IsNever : {G : Type 0} → G → BadWords → Type 0
IsNever given bad = ⊥

-- What the readers of words answer: what is asked, or what is wrong. That there was no memory says nothing.

abbrev pub IsRefused : (BadWords → Type 0) → WordsFault → Type 0
IsRefused IsBad (Wrong bad) = IsBad bad
IsRefused IsBad NoMemory = Unit {0}

abbrev pub Reads : {A : Type 0} → (A → Type 0) → (BadWords → Type 0) → Result A WordsFault → Type 0
Reads IsRight IsBad (Ok a) = IsRight a
Reads IsRight IsBad (Err fault) = IsRefused IsBad fault
