pub mod Breaking
pub mod LogEntries
pub mod LogInspections
pub mod LogMonitors
pub mod LogMonitorings
pub mod FirstBroken
