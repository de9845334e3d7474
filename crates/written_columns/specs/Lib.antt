-- the elements and the schema paths that are written
pub mod Written
