mod Examples
pub mod Giving
pub mod Sampling
pub mod Hosting
pub mod Picking
pub mod Repeating
pub mod Numbering
pub mod Lining
pub mod Gathering
pub mod Carrying
pub mod Trying
pub mod Readying
pub mod Silence
