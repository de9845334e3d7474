-- What a reading says of a node: what depends on the mask alone, for the node and for all inside it.
use Rattle.std.specs.Prelude.{◌≡◌, ℕ, ◌+◌, Bool, true, false, ◌||◌, List, [], ◌∷◌, ◌++◌}
use Rattle.std.specs.List.{list_any}
use Rattle.shred_schema.specs.Groups.{Group, group, Kind, object_of, list_of, Groups, no_groups, field, slot_width, width, kind_width}
use Rattle.shred_schema.specs.Ranges.{is_any_read}
use Rattle.shred_schema.specs.declared.nodes.Slot.{Slot}
use Rattle.unshredder.specs.Seen.{is_tested}
use Rattle.unshredder.specs.declared.readings.Reading.{Reading, out-Reading}

-- the reading says this of a node whose leaves begin at leaf `k`. `values` says that some value is read, its own or one
-- inside it
pub record IsRead (mask : ℕ → Bool) (s : Slot) (t : Kind) (k : ℕ) (r : Reading) : Type 0 where
  pub value : (out-Reading r).value ≡ is_any_read mask k (slot_width s)
  pub typed : (out-Reading r).typed ≡ is_any_read mask (k + slot_width s) (kind_width t)
  pub tested : (out-Reading r).tested ≡ is_tested mask k (group s t)
  pub values : (out-Reading r).values ≡ (out-Reading r).value || list_any (λ x. (out-Reading x).values) (out-Reading r).inside

-- where `there`, a list has one more item at its front, of which `P` holds; `More` holds of those after it
abbrev pub Begins : (there : Bool) (P : Reading → Type 0) (More : List Reading → Type 0) → List Reading → Type 0
Begins false P More rs = More rs
Begins true P More [] = ⊥
Begins true P More (r ∷ rs) = P r × More rs

-- where `there`, an item of which `P` holds was put after a list
abbrev pub IsPut : (there : Bool) (P : Reading → Type 0) → List Reading → List Reading → Type 0
IsPut false P before after = after ≡ before
IsPut true P before after = (r : Reading) × (P r × (after ≡ before ++ r ∷ []))

-- And the same of what is inside it: of each field of which some leaf is read, in the order of the fields, or of the
-- element. The first of `gs` is the field at `i` of its object.
abbrev mutual
  pub IsReading : (ℕ → Bool) → Group → ℕ → Reading → Type 0
  IsReading mask (group s t) k r = IsRead mask s t k r × AreInside mask t (k + slot_width s) (out-Reading r).inside

  pub AreInside : (ℕ → Bool) → Kind → ℕ → List Reading → Type 0
  AreInside mask (object_of gs) k rs = AreReadings mask gs 0 k rs
  AreInside mask (list_of n) k (r ∷ []) = IsReading mask n k r
  AreInside mask (list_of n) k rs = ⊥
  AreInside mask t k rs = Unit {0}

  pub AreReadings : (ℕ → Bool) → Groups → ℕ → ℕ → List Reading → Type 0
  AreReadings mask no_groups i k [] = Unit {0}
  AreReadings mask no_groups i k (r ∷ rs) = ⊥
  AreReadings mask (field name n gs) i k rs =
      Begins (is_any_read mask k (width n)) (λ r. ((out-Reading r).place ≡ i) × IsReading mask n k r) (λ more. AreReadings mask gs (i + 1) (k + width n) more) rs

-- the reading of the field at `i`
abbrev pub IsFieldReading : (ℕ → Bool) → Group → ℕ → ℕ → Reading → Type 0
IsFieldReading mask n i k r = ((out-Reading r).place ≡ i) × IsReading mask n k r

-- this holds under some mask, where the leaves begin at some leaf
pub record UnderSome (P : (ℕ → Bool) → ℕ → Type 0) : Type 0 where
  pub mask : ℕ → Bool
  pub leaf : ℕ
  pub holds : P mask leaf
