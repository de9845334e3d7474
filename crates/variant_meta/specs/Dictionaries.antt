-- What a dictionary holds.
use Rattle.std.specs.Prelude.{◌≡◌, ℕ, ◌-◌, ◌^◌, ◌<◌, true, List, length}
use Rattle.std.specs.List.{concat}
use Rattle.variant_meta.specs.Names.{names_rise}

-- the bounds of the count of names, and of their bytes together: each number of their metadata fits 4 bytes
abbrev pub count_bound : ℕ
count_bound = 2 ^ 32 - 1

abbrev pub bytes_bound : ℕ
bytes_bound = 2 ^ 32

-- names that strictly rise by bytes, within the bounds
pub record IsDictionary (names : List (List ℕ)) : Type 0 where
  pub rising : names_rise names ≡ true
  pub few : length names < count_bound
  pub small : length (concat names) < bytes_bound
