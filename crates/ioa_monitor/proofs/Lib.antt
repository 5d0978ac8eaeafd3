pub mod Acting
pub mod Hosting
pub mod Monitored
pub mod Subjects
pub mod Accepting
pub mod Watching
