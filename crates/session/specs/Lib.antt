pub mod Commands
pub mod Endings
pub mod Faults
pub mod Headings
pub mod Operands
pub mod Readings
pub mod Runs
pub mod Stages
