pub mod Benches
pub mod Choosing
pub mod Covering
pub mod Following
pub mod Settling
pub mod Verdicts
pub mod Windows
