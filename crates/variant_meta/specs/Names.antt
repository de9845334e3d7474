-- Lists of names: the place of a name, and whether names rise.
use Rattle.std.specs.Prelude.{◌≡◌, ◌<◌, ◌≤◌, ℕ, suc, length, false, List, [], ◌∷◌, get_or, Bool, true, ◌&&◌, if◌then◌else◌}
use Rattle.std.specs.Cmp.Lexicographic.{slice_cmp}
use Rattle.std.specs.Ordering.{nat_cmp, is_lt}
use Rattle.std.specs.Str.{bytes_eq}

-- the name at a place
abbrev pub name_at : List (List ℕ) → ℕ → List ℕ
name_at names id = get_or names id []

-- the least place of a name, or the count of all names where it isn't among them
abbrev pub place_of : List (List ℕ) → List ℕ → ℕ
place_of [] name = 0
place_of (other ∷ names) name = if bytes_eq other name then 0 else suc (place_of names name)

-- a name comes before another by bytes
abbrev pub is_before : List ℕ → List ℕ → Bool
is_before name other = is_lt (slice_cmp nat_cmp name other)

-- each name is greater by bytes than the one before it, the first one than `name`
abbrev pub rise_after : List ℕ → List (List ℕ) → Bool
rise_after name [] = true
rise_after name (other ∷ names) = is_before name other && rise_after other names

-- the names strictly rise by bytes
abbrev pub names_rise : List (List ℕ) → Bool
names_rise [] = true
names_rise (name ∷ names) = rise_after name names

-- each of the first `k` names comes before a name
abbrev pub AllBefore : List (List ℕ) → List ℕ → ℕ → Type 0
AllBefore names name k = (j : ℕ) → j < k → is_before (name_at names j) name ≡ true

-- no name from place `k` on comes before a name
abbrev pub NoneBefore : List (List ℕ) → List ℕ → ℕ → Type 0
NoneBefore names name k = (j : ℕ) → k ≤ j → j < length names → is_before (name_at names j) name ≡ false
