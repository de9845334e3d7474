-- Entries of a page that was judged, which are made as they are asked for.
use Rattle.std.specs.Prelude.{◌≡◌, ℕ, ◌+◌, ◌≤◌, true, is_ok, List, [], length, drop, Result, Ok, Err}
use Rattle.vs_bytes.specs.declared.leaf_columns.Entry.{Entry}
use Rattle.vs_bytes.specs.declared.leaf_columns.Leaf.{Leaf}
use Rattle.vs_bytes.specs.declared.leaf_columns.PrimKind.{PrimKind}
use Rattle.vs_bytes.specs.declared.leaf_columns.PrimKind.TheVariants as prim
use Rattle.vs_bytes.specs.declared.rule.Rule.{Rule}
use Rattle.plain_values.specs.Plain.{front_cell}
use Rattle.pages.specs.ReadInTurn.{entries_in_turn, before}

-- the entries of levels, by the bytes of their values
abbrev pub left : Leaf → List ℕ → List ℕ → List ℕ → Result (List Entry) Rule
left leaf reps defs bytes = entries_in_turn (front_cell leaf.phys leaf.prim) leaf.def reps defs bytes

-- how values of a leaf are read that were judged: texts as bytes, which needn't be judged again
abbrev pub judged_kind : PrimKind → PrimKind
judged_kind prim.Text = prim.Raw
judged_kind kind = kind

abbrev pub judged_leaf : Leaf → Leaf
judged_leaf leaf = record leaf { prim = judged_kind leaf.prim }

-- none stand in for those that violate a rule
abbrev pub made : Result (List Entry) Rule → List Entry
made (Ok entries) = entries
made (Err broken) = []

-- all values were judged, and the entries in front of `at` were given, whose values take `used` bytes
pub record IsJudged (leaf : Leaf) (reps defs : List ℕ) (count at : ℕ) (values : List ℕ) (used : ℕ) : Type 0 where
  pub reps_len : length reps ≡ count
  pub defs_len : length defs ≡ count
  pub given : at ≤ count
  pub inside : used ≤ length values
  pub good : is_ok (left leaf (drop at reps) (drop at defs) (drop used values)) ≡ true

-- the entries from `from` on in front of `end`, whose values take `used` bytes
pub record IsPiece (leaf : Leaf) (reps defs : List ℕ) (from end : ℕ) (bytes : List ℕ) (found : List Entry) (used : ℕ) : Type 0 where
  pub whole : before found (left leaf (drop end reps) (drop end defs) (drop used bytes)) ≡ left leaf (drop from reps) (drop from defs) bytes
  pub count : length found + from ≡ end
  pub inside : used ≤ length bytes
