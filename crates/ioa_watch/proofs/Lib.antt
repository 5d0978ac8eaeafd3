mod Examples
mod StreamExamples
pub mod Hearing
pub mod Counted
pub mod Alike
pub mod Placed
pub mod EntryNames
pub mod Watchers
pub mod AsMonitors
pub mod AsSubjects
pub mod StreamLemmas
pub mod HeardUpTo
pub mod Failing
pub mod Known
pub mod Listened
