pub mod Monitoring
pub mod Accepting
pub mod Watching
