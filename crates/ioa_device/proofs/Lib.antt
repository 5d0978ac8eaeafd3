pub mod Devices
pub mod LineReading
pub mod Pieces
