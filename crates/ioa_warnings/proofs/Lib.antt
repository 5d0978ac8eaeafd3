pub mod CutLines
pub mod Unmentioned
pub mod BrokenOff
pub mod Examples
pub mod Disabled
