-- The schema paths that are written read back.
use Rattle.std.proofs.Common.{ℕ, ◌+◌, ◌*◌, ◌^◌, ◌<◌, ◌≤◌, List, [], ◌∷◌, ◌++◌, length, arith}
use Rattle.std.specs.List.{AllByRecursion}
use Rattle.std.proofs.lemmas.List.{length-append}
use Rattle.thrift_structs.specs.ChunkWriting.{IsShort}
use Rattle.shred_schema.specs.Groups.{Group, group, Kind, free, scalar, object_of, list_of, Groups, no_groups, field, nesting, kind_nesting, groups_nesting}
use Rattle.shred_schema.specs.declared.nodes.Slot.{Slot}
use Rattle.shred_schema.specs.declared.nodes.Slot.TheVariants.{Absent, Required, Optional}
use Rattle.group_writing.specs.GroupChunks.{Path}
use Rattle.written_columns.specs.Written.{value_name, typed_name, list_name, element_name, value_paths, member_paths, typed_paths, field_paths, column_paths}
use Rattle.store_laws.proofs.NodeNames.{EachName, EachNameIn, EachFieldName, IsNamed}

-- a list header can say how many names a path has, and each name is short
pub record IsPath (path : Path) : Type 0 where
  pub size : length path < 2 ^ 32
  pub names : AllByRecursion IsShort path

both : (xs ys : List Path) → AllByRecursion IsPath xs → AllByRecursion IsPath ys → AllByRecursion IsPath (xs ++ ys)
both [] ys h k = k
both (x ∷ xs) ys h k = (h.0, both xs ys h.1 k)

more : (way : Path) (name : List ℕ) → AllByRecursion IsShort way → IsShort name → AllByRecursion IsShort (way ++ name ∷ [])
more [] name h short = (short, tt)
more (x ∷ way) name h short = (h.0, more way name h.1 short)

-- a path that ends with a name of the writer's own
ended : (way : Path) (name : List ℕ) → AllByRecursion IsShort way → IsShort name → length way + 1 < 2 ^ 32 → IsPath (way ++ name ∷ [])
ended way name h short room = record { size = omega (arith, length-append way (name ∷ []), room); names = more way name h short }

values : (s : Slot) (way : Path) → AllByRecursion IsShort way → length way + 1 < 2 ^ 32 → AllByRecursion IsPath (value_paths way s)
values Absent way h room = tt
values Required way h room = (ended way value_name h (omega arith) room, tt)
values Optional way h room = (ended way value_name h (omega arith) room, tt)

mutual
  members : (n : Group) (way : Path) → EachName IsNamed n → AllByRecursion IsShort way → length way + (3 * nesting n + 1) < 2 ^ 32 → AllByRecursion IsPath (member_paths n way)
  members (group s t) way names h room = both (value_paths way s) (typed_paths t way) (values s way h (omega (arith, room))) (typed t way names h room)

  typed : (t : Kind) (way : Path) → EachNameIn IsNamed t → AllByRecursion IsShort way → length way + (3 * kind_nesting t + 1) < 2 ^ 32 → AllByRecursion IsPath (typed_paths t way)
  typed free way names h room = tt
  typed (scalar q) way names h room = (ended way typed_name h (omega arith) (omega (arith, room)), tt)
  typed (object_of gs) way names h room = each_field gs (way ++ typed_name ∷ []) names (more way typed_name h (omega arith)) (omega (arith, room, length-append way (typed_name ∷ [])))
  typed (list_of n) way names h room =
      members n (((way ++ typed_name ∷ []) ++ list_name ∷ []) ++ element_name ∷ []) names
      (more ((way ++ typed_name ∷ []) ++ list_name ∷ []) element_name (more (way ++ typed_name ∷ []) list_name (more way typed_name h (omega arith)) (omega arith)) (omega arith))
      (omega (arith, room, length-append way (typed_name ∷ []), length-append (way ++ typed_name ∷ []) (list_name ∷ []), length-append ((way ++ typed_name ∷ []) ++ list_name ∷ []) (element_name ∷ [])))

  -- a name is added for each field
  each_field : (gs : Groups) (way : Path) → EachFieldName IsNamed gs → AllByRecursion IsShort way → length way + (3 * groups_nesting gs + 2) < 2 ^ 32 → AllByRecursion IsPath (field_paths gs way)
  each_field no_groups way names h room = tt
  each_field (field name n gs) way names h room =
      both (member_paths n (way ++ name ∷ [])) (field_paths gs way)
      (members n (way ++ name ∷ []) names.1 (more way name h names.0.short) (omega (arith, room, length-append way (name ∷ []))))
      (each_field gs way names.2 h (omega (arith, room)))

pub paths_back : (name : List ℕ) (n : Group) → IsShort name → EachName IsNamed n → nesting n ≤ 64 → AllByRecursion IsPath (column_paths name n)
paths_back name n short names deep = (record { size = omega arith; names = (short, (omega arith, tt)) }, members n (name ∷ []) names (short, tt) (omega (arith, deep)))
