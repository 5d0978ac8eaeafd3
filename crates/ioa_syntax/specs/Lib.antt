pub use Rattle.ioa_lex.specs.Tokens
pub use Rattle.ioa_value.specs.Actions
pub mod Source
pub mod Stuck
