pub mod Spots
pub mod Items
