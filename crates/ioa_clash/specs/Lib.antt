pub mod Clashes
pub mod Rows
pub mod Index
