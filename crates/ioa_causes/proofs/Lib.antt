pub mod Found
pub mod LegalFronts
