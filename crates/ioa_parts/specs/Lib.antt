pub mod Nodes
pub mod Coded
pub mod Runs
pub mod Proposals
pub mod Faulting
