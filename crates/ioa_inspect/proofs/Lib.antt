pub mod Breaking
pub mod FirstBroken
pub mod LogEntries
pub mod LogInspections
pub mod Inspected
pub mod LogMonitors
