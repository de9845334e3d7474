-- What a tree stands for, as plain data.
use Rattle.std.specs.Prelude.{ℕ, List}
use Rattle.json_tree.specs.Json.{Json, null, boolean, number, text, array, object}
use Rattle.exact_num.specs.NumberOf.{decimal_of}
use Rattle.json_tree.specs.declared.types.Tree.{Tree}
use Rattle.json_tree.specs.declared.types.Tree.TheVariants.{Null, Bool, Num, Text, Array, Object}

abbrev pub view : Tree → Json
view Null = null
view (Bool b) = boolean b
view (Num n) = number (decimal_of n)
view (Text s) = text s
view (Array ps) = array ps
view (Object fs) = object fs

-- a name with its value
abbrev pub seen : List ℕ × Tree → List ℕ × Json
seen pair = (pair.0, view pair.1)
