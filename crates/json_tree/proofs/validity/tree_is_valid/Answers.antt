use Rattle.std.proofs.Common.{sym, subst}
use Rattle.std.specs.Str.{IsUtf8}
use Rattle.std.proofs.lemmas.Str.{is_utf8-from_IsUtf8}
use Rattle.json_tree.specs.Valid.{IsValid}
use Rattle.json_tree.specs.View.{view}
use Rattle.json_tree.specs.declared.types.Tree.{Tree}
use Rattle.json_tree.proofs.validity.tree_is_valid.Goals as goal

pub returns-in-Text : goal.returns-in-Text
returns-in-Text c = subst (λ (t : Tree). IsValid (view t)) (sym c.in-Text.is) (is_utf8-from_IsUtf8 c.in-Text.text (subst IsUtf8 c.as_str-text.ensures c.as_str-text.utf8))
