-- records that are filled field by field and item by item
pub mod Filled
