-- The order of an object's names, and what an object is made of.
use Rattle.std.specs.Prelude.{ℕ, List, [], ◌∷◌, cond, Option, None, Some, bytes_eq}
use Rattle.std.specs.Ordering.{nat_cmp, is_lt}
use Rattle.std.specs.Cmp.Lexicographic.{slice_cmp}
use Rattle.std.specs.List.Sorted.{IsStrictlySortedBy}
use Rattle.json_tree.specs.Json.{Json, null, boolean, number, text, array, object, Parts, no_parts, part, Fields, no_fields, field, names_of}

-- the names strictly rise by their bytes
abbrev pub NamesRise : Fields → Type 0
NamesRise fs = IsStrictlySortedBy (slice_cmp nat_cmp) (names_of fs)

-- the names of each object in a value strictly rise
abbrev mutual
  pub IsOrdered : Json → Type 0
  IsOrdered null = Unit {0}
  IsOrdered (boolean b) = Unit {0}
  IsOrdered (number d) = Unit {0}
  IsOrdered (text s) = Unit {0}
  IsOrdered (array ps) = AreOrdered ps
  IsOrdered (object fs) = NamesRise fs × HoldOrdered fs

  pub AreOrdered : Parts → Type 0
  AreOrdered no_parts = Unit {0}
  AreOrdered (part j ps) = IsOrdered j × AreOrdered ps

  pub HoldOrdered : Fields → Type 0
  HoldOrdered no_fields = Unit {0}
  HoldOrdered (field name j fs) = IsOrdered j × HoldOrdered fs

-- the value of the first member of that name
abbrev pub member_of : List ℕ → Fields → Option Json
member_of name no_fields = None
member_of name (field other j fs) = cond (bytes_eq other name) (Some j) (member_of name fs)

-- members in the order of their names
abbrev pub inserted : List ℕ × Json → List (List ℕ × Json) → List (List ℕ × Json)
inserted m [] = m ∷ []
inserted m (other ∷ ms) = cond (is_lt (slice_cmp nat_cmp m.0 other.0)) (m ∷ (other ∷ ms)) (other ∷ inserted m ms)

abbrev pub sorted : List (List ℕ × Json) → List (List ℕ × Json)
sorted [] = []
sorted (m ∷ ms) = inserted m (sorted ms)
