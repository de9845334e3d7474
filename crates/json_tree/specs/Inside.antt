-- What is inside of an array or an object nests less deep than it.
use Rattle.std.specs.Prelude.{ℕ, ◌+◌, ◌*◌, ◌≤◌, List, [], ◌∷◌, map}
use Rattle.std.proofs.Common.{arith}
use denote.Param.Weighed.{most}
use Rattle.json_tree.specs.Json.{parts_of, fields_of, depth_of, parts_depth, fields_depth}
use Rattle.json_tree.specs.View.{view, seen}
use Rattle.json_tree.specs.declared.types.Tree.{Tree}
use Rattle.json_tree.specs.declared.types.Tree.TheVariants.{Null, Bool, Num, Text, Array, Object}
use Rattle.json_tree.specs.declared.types.Items.TheDeep.{deep-Tree, deep-Members, size-Tree}
use Rattle.json_tree.specs.declared.types.Items.TheShapes.{weighed-Members-pairs-at-2}
use Rattle.json_tree.specs.declared.types.Members.TheInside.{Inside}

abbrev member_weight : (Tree → ℕ) → List ℕ × Tree → ℕ
member_weight weight p = (weighed-Members-pairs-at-2).weight Tree weight p

tree_inside : (t : Tree) → deep-Tree t ≤ depth_of (view t)
tree_inside Null = omega arith
tree_inside (Bool b) = omega arith
tree_inside (Num n) = omega arith
tree_inside (Text s) = omega arith
tree_inside (Array ps) = omega arith
tree_inside (Object fs) = omega arith

tree_sized : (t : Tree) → size-Tree t ≤ 2 * depth_of (view t) + 1
tree_sized Null = omega arith
tree_sized (Bool b) = omega arith
tree_sized (Num n) = omega arith
tree_sized (Text s) = omega arith
tree_sized (Array ps) = omega (arith, tree_inside (Array ps))
tree_sized (Object fs) = omega (arith, tree_inside (Object fs))

pub items_inside : (ts : List Tree) → most deep-Tree ts ≤ parts_depth (parts_of (map view ts))
items_inside [] = omega arith
items_inside (t ∷ ts) = omega (arith, tree_inside t, items_inside ts)

members_within : (ps : List (List ℕ × Tree)) → most (member_weight deep-Tree) ps ≤ fields_depth (fields_of (map seen ps))
members_within [] = omega arith
members_within (p ∷ ps) = omega (arith, tree_inside p.1, members_within ps)

pub members_inside : (m : Inside) → deep-Members m ≤ fields_depth (fields_of (map seen m.pairs.items))
members_inside m = omega (arith, members_within m.pairs.items)

-- the same of the sizes by which a recursion over trees falls

pub items_sized : (ts : List Tree) → most size-Tree ts ≤ 2 * parts_depth (parts_of (map view ts)) + 1
items_sized [] = omega arith
items_sized (t ∷ ts) = omega (arith, tree_sized t, items_sized ts)

pub members_sized : (ps : List (List ℕ × Tree)) → most (λ p. (weighed-Members-pairs-at-2).weight Tree size-Tree p) ps ≤ 2 * fields_depth (fields_of (map seen ps)) + 1
members_sized [] = omega arith
members_sized (p ∷ ps) = omega (arith, tree_sized p.1, members_sized ps)
