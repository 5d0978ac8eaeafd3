pub mod Wanting
pub mod Runs
pub mod Ends
pub mod Sameness
