pub mod Scopes
pub mod CodedScopes
pub mod Placed
pub mod Extents
pub mod Emitting
