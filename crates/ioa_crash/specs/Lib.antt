pub mod Rewriting
pub mod Limits
pub mod Crashes
