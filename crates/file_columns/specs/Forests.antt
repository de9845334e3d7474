-- A schema is a list of elements, each group in front of what stands inside it, with the number of elements that stand
-- directly inside (parquet.thrift, "FileMetaData.schema": depth first). This is the tree that the list stands for.
use Rattle.std.specs.Prelude.{◌≡◌, ℕ, zero, suc, ◌+◌, List, [], ◌∷◌, ◌++◌}
use Rattle.schema_elements.specs.declared.elements.SchemaElement.{SchemaElement}
use Rattle.schema_elements.specs.SchemaTrees.{child_count, own_leaf}

-- trees in order: an element with the trees inside it, and the trees that follow
pub data Forest : Type 0 where
  no_trees : Forest
  tree : SchemaElement → Forest → Forest → Forest

-- the elements of trees, in order
abbrev pub flat : Forest → List SchemaElement
flat no_trees = []
flat (tree e inside next) = e ∷ (flat inside ++ flat next)

-- the first n trees, and those after them
abbrev pub front : ℕ → Forest → Forest
front zero f = no_trees
front (suc n) no_trees = no_trees
front (suc n) (tree e inside next) = tree e inside (front n next)

abbrev pub back : ℕ → Forest → Forest
back zero f = f
back (suc n) no_trees = no_trees
back (suc n) (tree e inside next) = back n next

-- an element takes the first trees of those after it
abbrev pub planted : SchemaElement → Forest → Forest
planted e f = tree e (front (child_count e) f) (back (child_count e) f)

abbrev pub forest : List SchemaElement → Forest
forest [] = no_trees
forest (e ∷ es) = planted e (forest es)

-- how many leaves there are
abbrev pub leaf_count : Forest → ℕ
leaf_count no_trees = 0
leaf_count (tree e inside next) = own_leaf e + leaf_count inside + leaf_count next

-- how many trees there are, and trees after others
abbrev pub tree_count : Forest → ℕ
tree_count no_trees = 0
tree_count (tree e inside next) = suc (tree_count next)

-- each element tells how many stand inside it
abbrev pub Tells : Forest → Type 0
Tells no_trees = Unit {0}
Tells (tree e inside next) = (tree_count inside ≡ child_count e) × Tells inside × Tells next
