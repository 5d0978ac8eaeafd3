pub mod Counts
pub mod Devices
pub mod Failing
pub mod LineReading
