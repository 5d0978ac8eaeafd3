pub mod Layout
pub mod WordOperators
pub mod Decoding
pub mod Drafts
