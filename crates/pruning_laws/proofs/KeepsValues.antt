-- The value of a node under a mask, and the two steps in which a node is seen.
use Rattle.std.proofs.Common.{◌≡◌, ◌∙◌, refl, sym, ℕ, ◌+◌, Bool, true, false, cond, List, Option, None, Some, ◌⊎◌, inl, inr, Result, Ok}
use Rattle.json_tree.specs.Json.{Json}
use Rattle.vs_bytes.specs.declared.rule.Rule.{Rule}
use Rattle.shred_schema.specs.Groups.{group, Kind, slot_width, kind_width}
use Rattle.shred_schema.specs.Ranges.{is_among, is_any_read, every}
use Rattle.shred_schema.specs.Recs.{rec, RecPart}
use Rattle.shred_schema.specs.declared.nodes.Slot.{Slot}
use Rattle.shred_schema.specs.declared.nodes.Slot.TheVariants.{Absent, Required, Optional}
use Rattle.shred_schema.proofs.LeafRanges.{among_first}
use Rattle.unshredder.specs.Seen.{value_seen, seen, typed_seen}
use Rattle.pruning_laws.proofs.Chains.{steps_of}
use Rattle.pruning_laws.proofs.MoreRead.{read_every}

-- a node that is seen: its value, then its typed part
pub record IsSeen (mask : ℕ → Bool) (names : List (List ℕ)) (s : Slot) (t : Kind) (k above : ℕ) (v : Option (List ℕ)) (p : RecPart) (o : Option Json) : Type 0 where
  pub value : Option Json
  pub of_value : value_seen names above (is_any_read mask k (slot_width s)) v ≡ Ok value
  pub of_typed : cond (is_any_read mask (k + slot_width s) (kind_width t)) (typed_seen mask names t (k + slot_width s) above value p) (Ok value) ≡ Ok o

pub parts_seen : (mask : ℕ → Bool) (names : List (List ℕ)) (s : Slot) (t : Kind) (k above : ℕ) (v : Option (List ℕ)) (p : RecPart) (o : Option Json)
    → seen mask names (group s t) k above (rec v p) ≡ Ok o → IsSeen mask names s t k above v p o
parts_seen mask names s t k above v p o h =
    let typed : Option Json → Result (Option Json) Rule = λ value. cond (is_any_read mask (k + slot_width s) (kind_width t)) (typed_seen mask names t (k + slot_width s) above value p) (Ok value) in
    let parts = steps_of (value_seen names above (is_any_read mask k (slot_width s)) v) typed o h in
    record { value = parts.value; of_value = parts.is; of_typed = parts.rest }

-- a typed part that isn't read
pub typed_unread : (read : Bool) (r : Result (Option Json) Rule) (value o : Option Json) → read ≡ false → cond read r (Ok value) ≡ Ok o → o ≡ value
typed_unread true r value o e h = absurd cc
typed_unread false r value o e h = let same : value ≡ o = cc in sym same

pub typed_read : (read : Bool) (r : Result (Option Json) Rule) (value o : Option Json) → read ≡ true → cond read r (Ok value) ≡ Ok o → r ≡ Ok o
typed_read true r value o e h = h
typed_read false r value o e h = absurd cc

-- a typed part that tells nothing: the value is all that shows
pub value_alone : (read : Bool) (value o : Option Json) → cond {A = Result (Option Json) Rule} read (Ok value) (Ok value) ≡ Ok o → o ≡ value
value_alone true value o h = let is : value ≡ o = cc in sym is
value_alone false value o h = let is : value ≡ o = cc in sym is

-- Which parts a mask reads.

one_reads : (mask : ℕ → Bool) (k : ℕ) → mask k ≡ true → is_any_read mask k 1 ≡ true
one_reads mask k h = rw h refl

-- a mask that reads a node's value reads it as each mask does
value_reads : (mask : ℕ → Bool) (s : Slot) (k : ℕ) → ((j : ℕ) → is_among j k (slot_width s) ≡ true → mask j ≡ true) → is_any_read mask k (slot_width s) ≡ is_any_read every k (slot_width s)
value_reads mask Absent k h = refl
value_reads mask Required k h = one_reads mask k (h k (among_first k 0))
value_reads mask Optional k h = one_reads mask k (h k (among_first k 0))

-- The values that two masks show.

value_same : (names : List (List ℕ)) (above : ℕ) (v : Option (List ℕ)) (a b : Bool) (less value : Option Json) → a ≡ b → value_seen names above a v ≡ Ok less
    → value_seen names above b v ≡ Ok value → less ≡ value
value_same names above v a b less value e f g =
    let same : value_seen names above a v ≡ value_seen names above b v = λ i. value_seen names above (e i) v in
    let is : Ok less ≡ Ok value = sym f ∙ same ∙ g in
    cc

-- under a mask the value is as it is, or isn't shown
value_less : (names : List (List ℕ)) (above : ℕ) (v : Option (List ℕ)) (a b : Bool) (less value : Option Json) → (a ≡ true → b ≡ true) → value_seen names above a v ≡ Ok less
    → value_seen names above b v ≡ Ok value → (less ≡ value) ⊎ (less ≡ None)
value_less names above None a b less value h f g = inr (let is : None ≡ less = cc in sym is)
value_less names above (Some bytes) false b less value h f g = inr (let is : None ≡ less = cc in sym is)
value_less names above (Some bytes) true b less value h f g = inl (value_same names above (Some bytes) true b less value (sym (h refl)) f g)

module _ (mask : ℕ → Bool) (names : List (List ℕ)) (s : Slot) (t : Kind) (k above : ℕ) (v : Option (List ℕ)) (p : RecPart) (less o : Option Json) where
  pub shown_less : (few : IsSeen mask names s t k above v p less) (all : IsSeen every names s t k above v p o) → (few.value ≡ all.value) ⊎ (few.value ≡ None)
  shown_less few all =
      value_less names above v (is_any_read mask k (slot_width s)) (is_any_read every k (slot_width s)) few.value all.value (read_every mask k (slot_width s)) few.of_value all.of_value

  pub shown_same : (few : IsSeen mask names s t k above v p less) (all : IsSeen every names s t k above v p o) → ((j : ℕ) → is_among j k (slot_width s) ≡ true → mask j ≡ true) → few.value ≡ all.value
  shown_same few all needs =
      value_same names above v (is_any_read mask k (slot_width s)) (is_any_read every k (slot_width s)) few.value all.value (value_reads mask s k needs) few.of_value all.of_value
