-- The bytes of a value, wherever they lie.
use Rattle.std.specs.Prelude.{ℕ, List}
use Rattle.vs_bytes.specs.declared.byte_list.HeldBytes.{HeldBytes}
use Rattle.vs_bytes.specs.declared.byte_list.HeldBytes.TheVariants.{Short, Long}

abbrev pub bytes_of : HeldBytes → List ℕ
bytes_of (Short bytes) = bytes
bytes_of (Long bytes) = bytes.value.items
