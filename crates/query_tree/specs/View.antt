-- What a path and a filter stand for, as plain data.
use Rattle.std.specs.Prelude.{List}
use Rattle.json_tree.specs.View as trees
use Rattle.query_tree.specs.Formula.{Claim, exists, missing, stands, Formula, term, conjunction, disjunction, negation}
use Rattle.query_tree.specs.declared.step.Step.{Step}
use Rattle.query_tree.specs.declared.path.Path.{Path}
use Rattle.query_tree.specs.declared.filter.Test.{Test}
use Rattle.query_tree.specs.declared.filter.Test.TheVariants as test
use Rattle.query_tree.specs.declared.filter.Filter.{Filter, fold-Filter}
use Rattle.query_tree.specs.declared.filter.Filter.TheOpen.{Filter-F}

abbrev pub steps_of : Path → List Step
steps_of path = path.steps.items

abbrev pub claim_of : Test → Claim
claim_of test.Exists = exists
claim_of test.Missing = missing
claim_of (test.Stands relation literal) = stands relation (trees.view literal)

-- one level, with what is inside already seen
abbrev pub filter_step : Filter-F Formula → Formula
filter_step (Filter-F.Term path test) = term (steps_of path) (claim_of test)
filter_step (Filter-F.And f g) = conjunction f g
filter_step (Filter-F.Or f g) = disjunction f g
filter_step (Filter-F.Not f) = negation f

abbrev pub formula_of : Filter → Formula
formula_of = fold-Filter Formula filter_step
