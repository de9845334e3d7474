-- The groups of a file in order, up to the first rule that one of them violates.
use Rattle.std.specs.Prelude.{ℕ, ◌+◌, List, [], ◌∷◌, ◌++◌, Option, None, Some, Result, Ok, Err}
use Rattle.store_file.specs.declared.file_faults.Violation.{Violation}

-- what the groups before the violation gave, and the violation
pub record Seen (A : Type 0) : Type 0 where
  pub found : List A
  pub stop : Option Violation

abbrev pub all_found : {A : Type 0} → List A → Seen A
all_found xs = record { found = xs; stop = None }

abbrev pub with_group : {A : Type 0} → Result (List A) Violation → Seen A → Seen A
with_group (Ok xs) later = record { found = xs ++ later.found; stop = later.stop }
with_group (Err violation) later = record { found = []; stop = Some violation }

-- groups of which the first is group k, where `gives` is what each of them gives. Of a group that violates a rule
-- nothing is found
unfoldable pub seen_of : {A G : Type 0} → (ℕ → G → Result (List A) Violation) → ℕ → List G → Seen A
seen_of gives k [] = all_found []
seen_of gives k (g ∷ gs) = with_group (gives k g) (seen_of gives (k + 1) gs)
