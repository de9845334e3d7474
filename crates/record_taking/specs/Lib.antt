-- parts of a record, as they are taken leaf by leaf
pub mod Parts
