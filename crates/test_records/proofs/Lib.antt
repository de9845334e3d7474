-- what is known of schemas, documents and records
pub mod Facts
