-- The row groups of a file that are closed: their structs, and where the next one begins.
use Rattle.std.specs.Prelude.{◌≡◌, ℕ, ◌+◌, ◌*◌, ◌^◌, ◌<◌, ◌≤◌, ℤ, pos, List, [], ◌∷◌, ◌++◌, length, Option, None, Some, Result, Ok, Err, codes, IfSome}
use Rattle.std.specs.List.{AllByRecursion, flat_map}
use Rattle.vs_bytes.specs.Numbers.{number_bytes}
use Rattle.thrift_structs.specs.Listed.{ListFits}
use Rattle.thrift_structs.specs.declared.column_chunks.ChunkMeta.{ChunkMeta}
use Rattle.schema_elements.specs.ElementWriting.{ElementFits}
use Rattle.schema_elements.specs.declared.elements.SchemaElement.{SchemaElement}
use Rattle.footer_structs.specs.FileEnds.{magic, footer_limit}
use Rattle.footer_structs.specs.Footers.{orders_in}
use Rattle.footer_structs.specs.FooterWriting.{footer_bytes, group_bytes, GroupFits}
use Rattle.footer_structs.specs.ReadFooters.{total_rows}
use Rattle.footer_structs.specs.declared.row_groups.GroupMeta.{GroupMeta}
use Rattle.footer_structs.specs.declared.file_metadata.FileMeta.{FileMeta}
use Rattle.closed_groups.specs.declared.group_list.Unclosed.{Unclosed}
use Rattle.closed_groups.specs.declared.group_list.Unclosed.TheVariants.{TooLong, NoMemory}

-- the metadata of a file with this schema, the orders of its leaves and these groups
abbrev pub file_meta : List SchemaElement → List ℤ → List GroupMeta → FileMeta
file_meta schema orders groups = record {
  version = pos 1;
  schema = schema;
  num_rows = pos (total_rows groups);
  row_groups = groups;
  created_by = Some (codes "vstore 1");
  column_orders = Some orders;
}

-- the struct of a row group
abbrev pub group_meta : List ChunkMeta → ℕ → ℕ → GroupMeta
group_meta columns size rows = record { columns = columns; total_byte_size = pos size; num_rows = pos rows }

-- what the writer of a file keeps of its closed groups, and the place after them
pub record Closed : Type 0 where
  pub schema : List SchemaElement
  pub orders : List ℤ
  pub groups : List GroupMeta
  pub place : ℕ

abbrev pub meta_of : Closed → FileMeta
meta_of c = file_meta c.schema c.orders c.groups

-- with one group more, of so many bytes
abbrev pub with_group : Closed → GroupMeta → ℕ → Closed
with_group c group size = record { schema = c.schema; orders = c.orders; groups = c.groups ++ group ∷ []; place = c.place + size }

-- how many bytes the footer has
abbrev pub footer_size : Closed → ℕ
footer_size c = length (footer_bytes (meta_of c))

-- a group closes where the footer with it isn't too long. Else nothing changes
abbrev pub Closes : Closed → Closed → GroupMeta → ℕ → Result (Unit {0}) Unclosed → Type 0
Closes before after group size (Ok _) = (after ≡ with_group before group size) × (footer_size (with_group before group size) ≤ footer_limit)
Closes before after group size (Err (TooLong len)) = (after ≡ before) × (len ≡ footer_size (with_group before group size)) × (footer_limit < len)
Closes before after group size (Err NoMemory) = after ≡ before

-- the same of the metadata, where the file then has so many rows
abbrev pub meta_with : FileMeta → GroupMeta → ℕ → FileMeta
meta_with m group rows = record m { num_rows = pos rows; row_groups = m.row_groups ++ group ∷ [] }

abbrev pub PutsGroup : FileMeta → FileMeta → ℕ → GroupMeta → Result (Unit {0}) Unclosed → Type 0
PutsGroup before after rows group (Ok _) = (after ≡ meta_with before group rows) × (length (footer_bytes (meta_with before group rows)) ≤ footer_limit)
PutsGroup before after rows group (Err (TooLong len)) = (after ≡ before) × (len ≡ length (footer_bytes (meta_with before group rows))) × (footer_limit < len)
PutsGroup before after rows group (Err NoMemory) = after ≡ before

-- the end of a file: the footer, its length in four bytes, and the magic number
abbrev pub ending_of : List ℕ → List ℕ
ending_of footer = footer ++ (number_bytes 4 (length footer) ++ magic)

-- what is known of the metadata, of how many bytes its groups have in the footer, and of how many rows the groups have.
-- A group's bytes in the footer are more than its chunks, each chunk is shorter than 2^30 bytes, and a group has 2^25
-- rows at most
pub record IsSound (m : FileMeta) (coded rows place : ℕ) : Type 0 where
  pub schema : ListFits ElementFits m.schema
  pub orders : IfSome m.column_orders (ListFits (λ order. Unit {0}))
  pub each : AllByRecursion GroupFits m.row_groups
  pub sum : coded ≡ length (flat_map group_bytes m.row_groups)
  pub short : coded ≤ footer_limit
  pub few : length m.row_groups ≤ coded
  pub counted : rows ≡ total_rows m.row_groups
  pub rows_few : rows ≤ 2 ^ 25 * coded
  pub placed : place ≤ 4 + 2 ^ 30 * coded
  pub is : m ≡ file_meta m.schema (orders_in m.column_orders) m.row_groups
