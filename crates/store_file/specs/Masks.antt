-- Which leaves of a column are read.
use Rattle.std.specs.Prelude.{Bool, true, List, length, replicate}
use Rattle.query_tree.specs.Asked.{Asked}
use Rattle.shred_schema.specs.Views.{group_of}
use Rattle.file_columns.specs.declared.columns.FileColumn.{FileColumn}
use Rattle.chunk_pruning.specs.Needs.{needs}
use Rattle.store_file.specs.declared.store_file.StoreFile.{StoreFile}

-- all of them, for a check and for rows
abbrev pub full_mask : FileColumn → List Bool
full_mask column = replicate (length column.leaves) true

-- those that a query needs
abbrev pub needed : StoreFile → Asked → List Bool
needed f asked = needs asked (group_of f.column.column.node)
