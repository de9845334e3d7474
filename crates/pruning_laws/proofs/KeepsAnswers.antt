-- A query prints the same of two rows in which each of its paths finds the same.
use Rattle.std.proofs.Common.{◌≡◌, refl, sym, ap, ap₂, ℕ, ◌==◌, Bool, true, not, ◌&&◌, ◌||◌, cond, List, [], ◌∷◌, ◌++◌, Option, None, Some, Ok}
use Rattle.std.specs.List.{AllByRecursion, list_any}
use Rattle.byte_parsing.specs.Bytes.{line_feed, open_brace, close_brace}
use Rattle.json_tree.specs.Json.{Json}
use Rattle.query_tree.specs.Asked.{Asked}
use Rattle.query_tree.specs.Formula.{Formula, term, conjunction, disjunction, negation}
use Rattle.query_tree.specs.declared.step.Step.{Step}
use Rattle.path_query.specs.Answer.{value_text, with_member, members, line_of, list_text, passes, row_text}
use Rattle.path_query.specs.Matches.{at}
use Rattle.path_query.specs.Truth.{is_true_of, holds}
use Rattle.shred_schema.specs.Groups.{Group}
use Rattle.shred_schema.specs.Lawful.{AreNodes}
use Rattle.shred_schema.specs.Ranges.{every}
use Rattle.shred_schema.specs.Recs.{Rec}
use Rattle.unshredder.specs.Merging.{or_null}
use Rattle.unshredder.specs.Seen.{seen}
use Rattle.chunk_pruning.specs.Needs.{need, formula_paths, filter_paths, paths_of, ReadsNeeded}
use Rattle.pruning_laws.proofs.Keeps.{keeps}
use Rattle.pruning_laws.proofs.KeepsMatches.{null_matches}
use Rattle.pruning_laws.proofs.MoreRead.{either_right}

all_append : {A : Type 0} (P : A → Type 0) (xs ys : List A) → AllByRecursion P (xs ++ ys) → AllByRecursion P xs × AllByRecursion P ys
all_append P [] ys h = (tt, h)
all_append P (x ∷ xs) ys h = let parts = all_append P xs ys h.1 in ((h.0, parts.0), parts.1)

all_mapped : {A : Type 0} (P Q : A → Type 0) → ((x : A) → P x → Q x) → (xs : List A) → AllByRecursion P xs → AllByRecursion Q xs
all_mapped P Q f [] h = tt
all_mapped P Q f (x ∷ xs) h = (f x h.0, all_mapped P Q f xs h.1)

module _ (less row : Option Json) where
  -- each path finds the same in both rows
  abbrev pub AreFound : List (List Step) → Type 0
  AreFound = AllByRecursion (λ steps. at steps less ≡ at steps row)

  holds_same : (f : Formula) → AreFound (formula_paths f) → holds f less ≡ holds f row
  holds_same (term steps claim) h = ap (λ found. is_true_of found claim) h.0
  holds_same (conjunction f g) h =
      let parts = all_append (λ steps. at steps less ≡ at steps row) (formula_paths f) (formula_paths g) h in
      ap₂ (λ a b. a && b) (holds_same f parts.0) (holds_same g parts.1)
  holds_same (disjunction f g) h =
      let parts = all_append (λ steps. at steps less ≡ at steps row) (formula_paths f) (formula_paths g) h in
      ap₂ (λ a b. a || b) (holds_same f parts.0) (holds_same g parts.1)
  holds_same (negation f) h = ap not (holds_same f h)

  passes_same : (filter : Option Formula) → AreFound (filter_paths filter) → passes filter less ≡ passes filter row
  passes_same None h = refl
  passes_same (Some f) h = holds_same f h

  members_same : (paths : List (List Step)) → AreFound paths → members paths less ≡ members paths row
  members_same [] h = refl
  members_same (steps ∷ paths) h = ap₂ (λ found others. with_member steps (value_text steps found) others) h.0 (members_same paths h.1)

  line_same : (paths : List (List Step)) → AreFound paths → line_of paths less ≡ line_of paths row
  line_same paths h = ap (λ texts. open_brace ∷ (list_text texts ++ close_brace ∷ (line_feed ∷ []))) (members_same paths h)

  pub text_same : (asked : Asked) → AreFound (paths_of asked) → row_text asked less ≡ row_text asked row
  unfolding row_text
  text_same asked h =
      let parts = all_append (λ steps. at steps less ≡ at steps row) asked.paths (filter_paths asked.filter) h in
      let line = line_same asked.paths parts.0 in
      let passed = passes_same asked.filter parts.1 in
      λ i. cond (passed i) (line i) []

-- a row of which nothing is there is null
null_found : (steps : List Step) (less o : Option Json) → at steps less ≡ at steps o → at steps (Some (or_null less)) ≡ at steps (Some (or_null o))
null_found steps None None h = refl
null_found steps None (Some j) h = null_matches steps j h
null_found steps (Some i) None h = sym (null_matches steps i (sym h))
null_found steps (Some i) (Some j) h = h

-- a mask that reads what a query needs reads what each of its paths needs

each_path_read : (mask : ℕ → Bool) (n : Group) (paths : List (List Step)) → ((j : ℕ) → list_any (λ steps. need steps n 1 j) paths ≡ true → mask j ≡ true)
    → AllByRecursion (λ steps. (j : ℕ) → need steps n 1 j ≡ true → mask j ≡ true) paths
each_path_read mask n [] h = tt
each_path_read mask n (steps ∷ paths) h =
    (λ j own. h j (rw own refl), each_path_read mask n paths (λ j others. h j (either_right (need steps n 1 j) (list_any (λ steps. need steps n 1 j) paths) others)))

pub paths_read : (asked : Asked) (mask : ℕ → Bool) (n : Group) → ReadsNeeded asked n mask → AllByRecursion (λ steps. (j : ℕ) → need steps n 1 j ≡ true → mask j ≡ true) (paths_of asked)
paths_read asked mask n reads = each_path_read mask n (paths_of asked) (λ j some. reads j (either_right (j == 0) (list_any (λ steps. need steps n 1 j) (paths_of asked)) some))

-- a query prints the same of a row whether each leaf is read or those that it needs
pub row_keeps : (asked : Asked) (mask : ℕ → Bool) (names : List (List ℕ)) (n : Group) (x : Rec) (less o : Option Json) → ReadsNeeded asked n mask → AreNodes n
    → seen mask names n 1 0 x ≡ Ok less → seen every names n 1 0 x ≡ Ok o → row_text asked (Some (or_null less)) ≡ row_text asked (Some (or_null o))
row_keeps asked mask names n x less o reads nodes f g =
    text_same (Some (or_null less)) (Some (or_null o)) asked
    (all_mapped (λ steps. (j : ℕ) → need steps n 1 j ≡ true → mask j ≡ true) (λ steps. at steps (Some (or_null less)) ≡ at steps (Some (or_null o)))
    (λ steps needs. null_found steps less o (keeps mask names steps n 1 0 x less o nodes needs f g)) (paths_of asked) (paths_read asked mask n reads))
