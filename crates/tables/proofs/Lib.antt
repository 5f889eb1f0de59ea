pub mod Edges
pub mod Facts
pub mod Naming
pub mod Records
pub mod Rests
