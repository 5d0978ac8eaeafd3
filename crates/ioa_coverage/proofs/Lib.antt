mod Examples
pub mod Hosting
pub mod Adding
pub mod Bound
pub mod Evaluated
pub mod Shown
pub mod Followed
pub mod Labelled
pub mod Naming
pub mod ToldRows
pub mod Marked
pub mod Declared
pub mod Walked
pub mod Suiting
pub mod Simulated
pub mod Covering
