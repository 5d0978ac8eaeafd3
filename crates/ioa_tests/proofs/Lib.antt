pub mod Agreeing
pub mod Drawn
pub mod Lent
