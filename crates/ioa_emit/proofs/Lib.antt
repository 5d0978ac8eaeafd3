pub mod Views
pub mod Lengths
pub mod ParameterPlaces
pub mod Fixed
pub mod Emitted
