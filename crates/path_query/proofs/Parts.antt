-- The elements of an array.
use Rattle.std.proofs.Common.{◌≡◌, ◌∙◌, List, [], ◌∷◌, map, refl, sym, ap}
use Rattle.json_tree.specs.Json.{Json, array, Parts, parts_of, items_of}
use Rattle.json_tree.specs.View.{view}
use Rattle.json_tree.specs.declared.types.Tree.{Tree}
use Rattle.json_tree.specs.declared.types.Tree.TheVariants.{Array}
use Rattle.path_query.specs.Matches.{elements}

items_listed : (js : List Json) → items_of (parts_of js) ≡ js
items_listed [] = refl
items_listed (j ∷ js) = ap (λ rest. j ∷ rest) (items_listed js)

pub elements_seen : (t : Tree) (items : Parts) (ts : List Tree) → t ≡ Array items → items ≡ parts_of (map view ts) → map view ts ≡ elements (view t)
elements_seen t items ts e f = sym (ap elements (ap view e ∙ ap array f) ∙ items_listed (map view ts))
