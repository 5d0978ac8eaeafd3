pub mod Lines
pub mod Selections
pub mod Charts
pub mod Graphs
pub mod Edges
pub mod Labels
