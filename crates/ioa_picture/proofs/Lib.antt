pub mod Numbered
pub mod Edges
pub mod Selected
