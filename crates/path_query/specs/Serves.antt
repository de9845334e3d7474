-- Which single match makes a claim true, or false where the claim is that there is none.
use Rattle.std.specs.Prelude.{Bool, true}
use Rattle.json_tree.specs.Json.{Json}
use Rattle.query_tree.specs.Formula.{Claim, exists, missing, stands}
use Rattle.path_query.specs.Truth.{stands_to}

abbrev pub serves : Claim → Json → Bool
serves exists json = true
serves missing json = true
serves (stands relation literal) json = stands_to relation literal json
