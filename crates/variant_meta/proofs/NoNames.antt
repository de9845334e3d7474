-- The metadata that stands in for a dictionary without names.
use Rattle.std.proofs.Common.{rules, refl, ◌≡◌, ◌+◌, ◌≤◌, ℕ, false, List, [], ◌∷◌, length}
use Rattle.variant_meta.specs.Metadata.{header, offset_size, dictionary_size, offset, last_offset, names_start, name, names_from, all_names, falls_from, offsets_fall}

abbrev pub no_names : List ℕ
no_names = 17 ∷ 0 ∷ 0 ∷ []

pub width : 1 ≡ offset_size no_names
unfolding header offset_size dictionary_size offset last_offset names_start name names_from all_names falls_from offsets_fall
width = refl

pub count : 0 ≡ dictionary_size no_names
unfolding header offset_size dictionary_size offset last_offset names_start name names_from all_names falls_from offsets_fall
count = refl

pub start : 3 ≡ names_start no_names
unfolding header offset_size dictionary_size offset last_offset names_start name names_from all_names falls_from offsets_fall
start = refl

pub steady : offsets_fall no_names ≡ false
unfolding header offset_size dictionary_size offset last_offset names_start name names_from all_names falls_from offsets_fall
steady = refl

pub none : all_names no_names ≡ []
unfolding header offset_size dictionary_size offset last_offset names_start name names_from all_names falls_from offsets_fall
none = refl

pub inside : names_start no_names + last_offset no_names ≤ length no_names
unfolding header offset_size dictionary_size offset last_offset names_start name names_from all_names falls_from offsets_fall
inside = let three : 3 ≤ 3 = search rules in three
