-- What a `MetaRef` shows.
use Rattle.std.specs.Prelude.{ℕ, List}
use Rattle.variant_meta.specs.Metadata.{all_names}
use Rattle.variant_meta.specs.declared.meta_ref.MetaRef.{MetaRef}

-- the names, by their ids
unfoldable pub names_of : MetaRef → List (List ℕ)
names_of meta = all_names meta.held.layout.bytes.now

-- the bytes that it reads
unfoldable pub bytes_of : MetaRef → List ℕ
bytes_of meta = meta.held.layout.bytes.now
