pub mod FileEnds
pub mod FooterWriting
pub mod Footers
pub mod ReadFooters
