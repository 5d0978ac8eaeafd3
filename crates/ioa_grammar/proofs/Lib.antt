pub mod Binding
pub mod Climb
pub mod Turns
pub mod Tuples
