pub mod RowsDone
