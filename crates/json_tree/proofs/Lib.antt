pub mod Equality
pub mod Escapes
pub mod MembersMade
pub mod MembersOrder
pub mod NameSearch
pub mod QuotedStrings
pub mod Views
pub mod ValidParts
