pub mod Performed
pub mod Taken
pub mod Counts
pub mod Known
pub mod Following
pub mod Effects
pub mod Covered
