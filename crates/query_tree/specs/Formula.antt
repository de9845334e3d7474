-- A filter, apart from its spelling.
use Rattle.std.specs.Prelude.{List, Bool, true, false, ◌&&◌}
use Rattle.json_tree.specs.Json.{Json, null, boolean, number, text, array, object}
use Rattle.query_tree.specs.declared.step.Step.{Step}
use Rattle.query_tree.specs.declared.filter.Relation.{Relation}
use Rattle.query_tree.specs.declared.filter.Relation.TheVariants.{Equal, NotEqual, Less, AtMost, Greater, AtLeast}

-- what is asked of the matches of a path: that there is one, that there is none, or that one stands in a
-- relation to a literal
pub data Claim : Type 0 where
  exists : Claim
  missing : Claim
  stands : Relation → Json → Claim

pub data Formula : Type 0 where
  term : List Step → Claim → Formula
  conjunction : Formula → Formula → Formula
  disjunction : Formula → Formula → Formula
  negation : Formula → Formula

-- equal or not: the relations of values that have no order
abbrev pub is_equality : Relation → Bool
is_equality Equal = true
is_equality NotEqual = true
is_equality Less = false
is_equality AtMost = false
is_equality Greater = false
is_equality AtLeast = false

-- the relation of null, which has no other value beside it
abbrev pub is_equal : Relation → Bool
is_equal Equal = true
is_equal NotEqual = false
is_equal Less = false
is_equal AtMost = false
is_equal Greater = false
is_equal AtLeast = false

-- which relations a literal may stand in. An array or object is no literal
abbrev pub suits : Relation → Json → Bool
suits relation null = is_equal relation
suits relation (boolean b) = is_equality relation
suits relation (number d) = true
suits relation (text s) = true
suits relation (array ps) = false
suits relation (object fs) = false

abbrev pub is_claim_suited : Claim → Bool
is_claim_suited exists = true
is_claim_suited missing = true
is_claim_suited (stands relation literal) = suits relation literal

-- whether each literal suits its relation
abbrev pub is_suited : Formula → Bool
is_suited (term steps claim) = is_claim_suited claim
is_suited (conjunction f g) = is_suited f && is_suited g
is_suited (disjunction f g) = is_suited f && is_suited g
is_suited (negation f) = is_suited f
