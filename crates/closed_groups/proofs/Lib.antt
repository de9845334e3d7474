pub mod FooterSizes
pub mod GroupsMore
