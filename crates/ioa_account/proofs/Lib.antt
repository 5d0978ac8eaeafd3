mod Examples
pub mod LineNumbers
pub mod Counting
pub mod Ending
pub mod Faulting
pub mod StateLines
pub mod Telling
pub mod Quoting
pub mod Remarking
pub mod Refusing
