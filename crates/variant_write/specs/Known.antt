-- The names of a value that are kept for the next one.
use Rattle.std.specs.Prelude.{◌≡◌, ℕ, List}
use Rattle.variant_meta.specs.Written.{coded_names}
use Rattle.variant_write.specs.Dictionaries.{each_once}

-- a dictionary, and the bytes of its metadata
pub record Named : Type 0 where
  pub names : List (List ℕ)
  pub metadata : List ℕ

-- the dictionary is of the names as they stand in the value, and the metadata is the dictionary's
pub record IsKnown (names dictionary : List (List ℕ)) (least : ℕ) (metadata : List ℕ) : Type 0 where
  pub own : dictionary ≡ each_once names
  pub written : metadata ≡ coded_names least dictionary
