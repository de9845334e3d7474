-- What a query asks, as plain data.
use Rattle.std.specs.Prelude.{List, map, Option}
use Rattle.std.specs.Option.{option_map}
use Rattle.query_tree.specs.Formula.{Formula}
use Rattle.query_tree.specs.View.{steps_of, formula_of}
use Rattle.query_tree.specs.declared.step.Step.{Step}
use Rattle.query_tree.specs.declared.query.Query.{Query}

pub record Asked : Type 0 where
  -- without one, all rows are answered
  pub filter : Option Formula
  pub paths : List (List Step)

abbrev pub query_of : Query → Asked
query_of query = record { filter = option_map formula_of query.filter; paths = map steps_of query.paths }
