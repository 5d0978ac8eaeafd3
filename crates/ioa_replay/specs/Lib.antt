pub mod ListReplays
pub mod LogReplays
pub mod Traced
