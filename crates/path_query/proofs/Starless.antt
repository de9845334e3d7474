-- A path without a star has one match at most.
use Rattle.std.proofs.Common.{◌≡◌, ◌≤◌, List, [], ◌∷◌, Option, Some, None, false, length, subst, sym, arith, append-nil}
use Rattle.std.specs.List.{flat_map}
use Rattle.json_tree.specs.Json.{Json}
use Rattle.query_tree.specs.PathText.{has_star}
use Rattle.query_tree.specs.declared.step.Step.{Step}
use Rattle.query_tree.specs.declared.step.Step.TheVariants.{Field, Index, Star}
use Rattle.path_query.specs.Matches.{member, element_at, list_of, matches, at}

in_one : (steps : List Step) (found : Option Json) → ((json : Json) → length (matches steps json) ≤ 1) → length (flat_map (matches steps) (list_of found)) ≤ 1
in_one steps None each = omega arith
in_one steps (Some json) each = subst (λ (js : List Json). length js ≤ 1) (sym (append-nil (matches steps json))) (each json)

in_value : (steps : List Step) (json : Json) → has_star steps ≡ false → length (matches steps json) ≤ 1
in_value [] json e = omega arith
in_value (Field name ∷ steps) json e = in_one steps (member name json) (λ j. in_value steps j e)
in_value (Index n ∷ steps) json e = in_one steps (element_at n json) (λ j. in_value steps j e)
in_value (Star ∷ steps) json e = cc

pub match_once : (steps : List Step) (row : Option Json) → has_star steps ≡ false → length (at steps row) ≤ 1
match_once steps None e = omega arith
match_once steps (Some json) e = in_value steps json e
