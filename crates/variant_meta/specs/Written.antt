-- The metadata that is written for a dictionary.
use Rattle.std.specs.Prelude.{ℕ, ◌+◌, ◌-◌, ◌*◌, max, List, [], ◌∷◌, ◌++◌, length}
use Rattle.std.specs.List.{concat, flat_map}
use Rattle.vs_bytes.specs.Numbers.{number_bytes, width_of}

-- where each name ends, the first one beginning at `start`
abbrev pub ends_from : ℕ → List (List ℕ) → List ℕ
ends_from start [] = []
ends_from start (name ∷ names) = (start + length name) ∷ ends_from (start + length name) names

-- numbers one after the other, each of `width` bytes
abbrev pub numbers : ℕ → List ℕ → List ℕ
numbers width ns = flat_map (number_bytes width) ns

-- the bytes of a number: at least `least`, and as many as the count and the length of the names need
unfoldable pub written_size : ℕ → List (List ℕ) → ℕ
written_size least names = max least (width_of (max (length names) (length (concat names))))

-- version 1, sorted_strings 1
unfoldable pub written_header : ℕ → ℕ
written_header size = 1 + 16 + 64 * (size - 1)

-- header, dictionary_size, offsets, names
unfoldable pub metadata_of : ℕ → List (List ℕ) → List ℕ
metadata_of size names =
    written_header size ∷ (number_bytes size (length names) ++ (numbers size (0 ∷ ends_from 0 names) ++ concat names))

-- the metadata of a dictionary's names, with offsets of at least `least` bytes
unfoldable pub coded_names : ℕ → List (List ℕ) → List ℕ
coded_names least names = metadata_of (written_size least names) names
