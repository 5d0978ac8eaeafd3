pub mod Versions
pub mod Spelling
pub mod Objects
pub mod Reading
pub mod Openings
pub mod Refusals
