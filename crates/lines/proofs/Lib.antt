pub mod Exact
pub mod Opposing
pub mod Same
pub mod Writing
