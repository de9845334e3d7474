-- What reads back can be written.
use Rattle.std.proofs.Common.{List, ℤ, Option, None, Some, IfSome, [], ◌∷◌}
use Rattle.std.specs.List.{All}
use Rattle.std.proofs.lemmas.List.Elements.{All-nil, All-cons, All-head, All-tail}
use Rattle.thrift_structs.specs.Listed.{ListFits}
use Rattle.thrift_structs.specs.ChunkWriting.{StatsFits, ColumnFits, ChunkFits, StatsReadBack, ColumnReadsBack, ChunkReadsBack}
use Rattle.thrift_structs.specs.declared.column_chunks.Stats.{Stats}
use Rattle.thrift_structs.specs.declared.column_chunks.ColumnMeta.{ColumnMeta}
use Rattle.thrift_structs.specs.declared.column_chunks.ChunkMeta.{ChunkMeta}
use Rattle.thrift_structs.proofs.Listed.{plain_fit}
use Rattle.schema_elements.specs.ElementWriting.{ElementFits, ElementReadsBack}
use Rattle.footer_structs.specs.FooterWriting.{GroupFits, FileFits, GroupReadsBack, OrdersReadBack, FooterReadsBack}
use Rattle.footer_structs.specs.declared.row_groups.GroupMeta.{GroupMeta}
use Rattle.footer_structs.specs.declared.file_metadata.FileMeta.{FileMeta}

each : {A : Type 0} (P Q : A → Type 0) → ((x : A) → P x → Q x) → (xs : List A) → All P xs → All Q xs
each P Q h [] a = All-nil Q
each P Q h (x ∷ xs) a = All-cons Q x xs (h x (All-head P x xs a)) (each P Q h xs (All-tail P x xs a))

some : {A : Type 0} (P Q : A → Type 0) → ((x : A) → P x → Q x) → (x : Option A) → IfSome x P → IfSome x Q
some P Q h None f = tt
some P Q h (Some a) f = h a f

stats_fit : (s : Stats) → StatsReadBack s → StatsFits s
stats_fit s f = f.nulls

column_fits : (m : ColumnMeta) → ColumnReadsBack m → ColumnFits m
column_fits m f = record {
  encodings = f.encodings;
  path_in_schema = f.path_in_schema;
  statistics = some StatsReadBack StatsFits stats_fit m.statistics f.statistics;
}

chunk_fits : (m : ChunkMeta) → ChunkReadsBack m → ChunkFits m
chunk_fits m f = some ColumnReadsBack ColumnFits column_fits m.meta_data f.meta_data

group_fits : (g : GroupMeta) → GroupReadsBack g → GroupFits g
group_fits g f = record { size = f.columns; each = each ChunkReadsBack ChunkFits chunk_fits g.columns f.column }

orders_fit : (orders : List ℤ) → OrdersReadBack orders → ListFits (λ (order : ℤ). Unit {0}) orders
orders_fit orders f = plain_fit orders f.size

pub footer_fits : (m : FileMeta) → FooterReadsBack m → FileFits m
footer_fits m f = record {
  schema = record { size = f.schema; each = each ElementReadsBack ElementFits (λ e h. h.logical_type) m.schema f.element };
  row_groups = record { size = f.row_groups; each = each GroupReadsBack GroupFits group_fits m.row_groups f.group };
  column_orders = some OrdersReadBack (λ (orders : List ℤ). ListFits (λ (order : ℤ). Unit {0}) orders) orders_fit m.column_orders f.column_orders;
}
