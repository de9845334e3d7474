-- What levels are, as a list.
use Rattle.std.specs.Prelude.{ℕ, List, replicate}
use Rattle.pages.specs.declared.levels.Levels.{Levels}
use Rattle.pages.specs.declared.levels.Levels.TheVariants.{Zeros, Listed}

abbrev pub shown : Levels → List ℕ
shown (Zeros count) = replicate count 0
shown (Listed levels) = levels.items
