mod Examples
pub mod Asked
pub mod Cutting
pub mod Keys
pub mod Numbers
pub mod Parted
pub mod Spelled
pub mod ToldWords
