pub use Rattle.ioa_lex.specs.Tokens
pub mod Operators
pub mod Grammar
pub mod Reading
pub mod DeadEnds
