-- The columns whose values are counted.
use Rattle.vs_bytes.specs.declared.leaf_columns.Leaf.{Leaf}
use Rattle.vs_bytes.specs.declared.leaf_columns.Phys.TheVariants as phys
use Rattle.vs_bytes.specs.declared.leaf_columns.PrimKind.TheVariants as prim

-- integers of 64 bits, some of them missing
abbrev pub integers : Leaf
integers = record { rep = 0; def = 1; phys = phys.Int64; prim = prim.Int64 }

-- texts, none of them missing
abbrev pub texts : Leaf
texts = record { rep = 0; def = 0; phys = phys.ByteArray; prim = prim.Text }
