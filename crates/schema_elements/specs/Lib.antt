pub mod Unions
pub mod FieldValues
pub mod LogicalTypes
pub mod SchemaElements
pub mod ElementWriting
pub mod SchemaTrees
