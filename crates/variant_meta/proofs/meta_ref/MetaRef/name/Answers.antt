use Rattle.std.proofs.Common.{sym, subst, IsUtf8}
use Rattle.variant_meta.specs.Metadata.{all_names}
use Rattle.variant_meta.specs.MetaRefs.{names_of}
use Rattle.variant_meta.proofs.Places.{name_utf8}
use Rattle.variant_meta.proofs.meta_ref.MetaRef.name.Goals as goal

pub from_utf8_unchecked-requires : goal.from_utf8_unchecked-requires
unfolding names_of
from_utf8_unchecked-requires c =
    subst IsUtf8 (sym c.name-name.ensures.value) (name_utf8 (all_names c.args.self.now.held.layout.bytes.now) c.args.id c.args.self.now.utf8 c.requires)
