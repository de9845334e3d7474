-- What a filter's text and paths' texts ask for, and what is wrong with those that ask for nothing.
use Rattle.std.specs.Prelude.{◌≡◌, ◌⊎◌, ℕ, List, [], ◌∷◌, map, Bool, true, false, Option, Some, None, Contains}
use Rattle.vs_bytes.specs.Names.{repeats}
use Rattle.command_words.specs.Scan.{Given}
use Rattle.query_tree.specs.Asked.{Asked}
use Rattle.query_tree.specs.Formula.{Formula, is_suited}
use Rattle.query_tree.specs.PathText.{path_text}
use Rattle.query_tree.specs.declared.step.Step.{Step}
use Rattle.path_parsing.specs.Grammar.{IsPath}
use Rattle.filter_parsing.specs.Grammar.{IsFilter}
use Rattle.command_parsing.specs.declared.fault.BadWords.{BadWords}
use Rattle.command_parsing.specs.declared.fault.BadWords.TheVariants.{BadFilter, BadOrder, BadPath, RepeatedPath}

-- the filter of a text, if there is one; its literals suit their relations
abbrev pub AsksFilter : Option (List ℕ) → Option Formula → Type 0
AsksFilter None None = Unit {0}
AsksFilter None (Some formula) = ⊥
AsksFilter (Some text) None = ⊥
AsksFilter (Some text) (Some formula) = IsFilter text formula × (is_suited formula ≡ true)

-- the paths of texts, in order
abbrev pub ArePaths : List (List ℕ) → List (List Step) → Type 0
ArePaths [] [] = Unit {0}
ArePaths [] (steps ∷ paths) = ⊥
ArePaths (text ∷ texts) [] = ⊥
ArePaths (text ∷ texts) (steps ∷ paths) = IsPath text steps × ArePaths texts paths

-- whether two paths have one canonical text
abbrev pub is_repeated : List (List Step) → Bool
is_repeated paths = repeats (map path_text paths)

-- a filter or none, and paths of which no two are the same
pub record IsAsked (given : Given) (asked : Asked) : Type 0 where
  pub asks_filter : AsksFilter given.filter asked.filter
  pub are_paths : ArePaths given.paths asked.paths
  pub unlike : is_repeated asked.paths ≡ false

-- What else may be given, in the order in which it is judged: a text that is no filter,
pub record LacksFilter (given : Option (List ℕ)) : Type 0 where
  pub text : List ℕ
  pub is_given : given ≡ Some text
  pub is_none : (formula : Formula) → IsFilter text formula → ⊥

-- or one some of whose literals doesn't suit its relation;
pub record HasUnsuited (given : Option (List ℕ)) : Type 0 where
  pub text : List ℕ
  pub is_given : given ≡ Some text
  pub formula : Formula
  pub is_filter : IsFilter text formula
  pub is_unsuited : is_suited formula ≡ false

-- after a filter, some text that is no path,
pub record LacksPath (texts : List (List ℕ)) : Type 0 where
  pub text : List ℕ
  pub is_given : Contains texts text
  pub is_none : (steps : List Step) → IsPath text steps → ⊥

-- or two paths that are the same
pub record HasRepeated (texts : List (List ℕ)) : Type 0 where
  pub paths : List (List Step)
  pub are_paths : ArePaths texts paths
  pub is_twice : is_repeated paths ≡ true

abbrev pub IsFiltered : Given → Type 0
IsFiltered given = (filter : Option Formula) × AsksFilter given.filter filter

-- what may be wrong with a filter's text, with a path's text, with paths' texts, and with all of a query's texts

abbrev pub IsWrongFilter : Option (List ℕ) → BadWords → Type 0
IsWrongFilter text bad = ((bad ≡ BadFilter) × LacksFilter text) ⊎ ((bad ≡ BadOrder) × HasUnsuited text)

abbrev pub IsWrongPath : List ℕ → BadWords → Type 0
IsWrongPath text bad = (bad ≡ BadPath) × ((steps : List Step) → IsPath text steps → ⊥)

abbrev pub AreWrongPaths : List (List ℕ) → BadWords → Type 0
AreWrongPaths texts bad = (bad ≡ BadPath) × LacksPath texts

abbrev pub IsWrongQuery : Given → BadWords → Type 0
IsWrongQuery given bad =
    IsWrongFilter given.filter bad ⊎ (IsFiltered given × (AreWrongPaths given.paths bad ⊎ ((bad ≡ RepeatedPath) × HasRepeated given.paths)))
