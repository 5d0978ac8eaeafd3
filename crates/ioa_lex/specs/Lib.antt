pub mod Tokens
pub mod Lexing
pub mod Spaced
pub mod Fronts
pub mod Stops
