-- The node of an object.
use Rattle.std.proofs.Common.{◌≡◌, ◌∙◌, sym, ap, ℕ, List, map}
use Rattle.shred_schema.specs.Groups.{group, object_of, groups_from}
use Rattle.shred_schema.specs.Views.{group_of, kind_of, fields_in, named}
use Rattle.shred_schema.specs.declared.nodes.FieldList.{FieldList}
use Rattle.shred_schema.specs.declared.nodes.Node.{Node}
use Rattle.shred_schema.specs.declared.nodes.Typed.TheVariants as typed
use Rattle.shred_schema.proofs.Viewed.{node_is, kind_is_object}

pub object_shown : (node : Node) (fields : FieldList) (items : List (List ℕ × Node)) → node.typed ≡ typed.Fields fields → items ≡ fields_in fields → group_of node ≡ group node.value (object_of (groups_from (map named items)))
object_shown node fields items e f =
    node_is node ∙ ap (λ kind. group node.value kind) (ap kind_of e ∙ kind_is_object fields ∙ ap (λ xs. object_of (groups_from (map named xs))) (sym f))
