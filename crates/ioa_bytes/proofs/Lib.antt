pub mod Payloads
pub mod Readers
