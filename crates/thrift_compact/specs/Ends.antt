-- The last bytes of others.
use Rattle.std.specs.Prelude.{◌≡◌, ℕ, ◌-◌, List, length, drop}

abbrev pub IsEnd : List ℕ → List ℕ → Type 0
IsEnd rest whole = drop (length whole - length rest) whole ≡ rest
