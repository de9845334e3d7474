-- A path finds in what is seen of a node the same whether each leaf is read or those alone that it needs.
use Rattle.std.proofs.Common.{◌≡◌, ◌∙◌, sym, ap, ℕ, Bool, true, List, [], ◌∷◌, Option, Ok, arith}
use Rattle.json_tree.specs.Json.{Json}
use Rattle.query_tree.specs.declared.step.Step.{Step}
use Rattle.query_tree.specs.declared.step.Step.TheVariants.{Field, Index, Star}
use Rattle.path_query.specs.Matches.{at}
use Rattle.shred_schema.specs.Groups.{group, Kind, free, scalar, object_of, list_of}
use Rattle.shred_schema.specs.Lawful.{AreNodes}
use Rattle.shred_schema.specs.Ranges.{every}
use Rattle.shred_schema.specs.Recs.{rec, RecPart}
use Rattle.shred_schema.specs.declared.nodes.Slot.{Slot}
use Rattle.shred_schema.proofs.NodeFacts.{nodes_have_leaves}
use Rattle.chunk_pruning.specs.Needs.{need, step_need}
use Rattle.reading_laws.proofs.SameMasks.{seen_alike}
use Rattle.pruning_laws.proofs.KeepsFields.{FindsSame}
use Rattle.pruning_laws.proofs.KeepsLists.{list_keeps}
use Rattle.pruning_laws.proofs.KeepsObjects.{field_keeps}
use Rattle.pruning_laws.proofs.KeepsOthers.{IsPast, past_needs, value_keeps}
use Rattle.pruning_laws.proofs.KeepsValues.{IsSeen, parts_seen}

module _ (mask : ℕ → Bool) (names : List (List ℕ)) where
  -- without a step, each leaf of the node is read
  whole_keeps : FindsSame mask names []
  whole_keeps n k above x less o nodes needs f g =
      let same : Ok less ≡ Ok o = sym f ∙ seen_alike mask every names n k above x needs ∙ g in
      let is : less ≡ o = cc in
      ap (at []) is

  module _ (steps : List Step) (keep : FindsSame mask names steps) (s : Slot) (k above : ℕ) (v : Option (List ℕ)) (p : RecPart) (less o : Option Json) where
    abbrev Needed : Step → Kind → Type 0
    Needed step t = (j : ℕ) → step_need step s t (λ n m. need steps n m j) k j ≡ true → mask j ≡ true

    past_keeps : (step : Step) (t : Kind) → IsPast step t → Needed step t → IsSeen mask names s t k above v p less → IsSeen every names s t k above v p o → at (step ∷ steps) less ≡ at (step ∷ steps) o
    past_keeps step t past needs few all =
        value_keeps mask names step steps s t k above v p less o past (λ j a. needs j (past_needs step s t (λ n m. need steps n m j) k j past ∙ a)) few all

    step_keeps : (step : Step) (t : Kind) → AreNodes (group s t) → Needed step t → IsSeen mask names s t k above v p less → IsSeen every names s t k above v p o
        → at (step ∷ steps) less ≡ at (step ∷ steps) o
    step_keeps (Field name) (object_of gs) nodes needs few all =
        field_keeps mask names steps keep name s gs k above v less o p nodes.1.0 nodes.1.1 (omega (arith, (nodes_have_leaves (group s (object_of gs)) nodes).0)) needs few all
    step_keeps (Index i) (list_of n) nodes needs few all =
        list_keeps mask names (Index i) tt steps keep s n k above v less o nodes.1 p (omega (arith, (nodes_have_leaves (group s (list_of n)) nodes).0)) needs few all
    step_keeps Star (list_of n) nodes needs few all =
        list_keeps mask names Star tt steps keep s n k above v less o nodes.1 p (omega (arith, (nodes_have_leaves (group s (list_of n)) nodes).0)) needs few all
    step_keeps step free nodes needs few all = past_keeps step free tt needs few all
    step_keeps step (scalar q) nodes needs few all = past_keeps step (scalar q) tt needs few all
    step_keeps (Field name) (list_of n) nodes needs few all = past_keeps (Field name) (list_of n) tt needs few all
    step_keeps (Index i) (object_of gs) nodes needs few all = past_keeps (Index i) (object_of gs) tt needs few all
    step_keeps Star (object_of gs) nodes needs few all = past_keeps Star (object_of gs) tt needs few all

  next_keeps : (step : Step) (steps : List Step) → FindsSame mask names steps → FindsSame mask names (step ∷ steps)
  next_keeps step steps keep (group s t) k above (rec v p) less o nodes needs f g =
      step_keeps steps keep s k above v p less o step t nodes needs (parts_seen mask names s t k above v p less f) (parts_seen every names s t k above v p o g)

  pub keeps : (steps : List Step) → FindsSame mask names steps
  keeps [] = whole_keeps
  keeps (step ∷ steps) = next_keeps step steps (keeps steps)
