pub mod Carried
pub mod Chosen
pub mod Covering
pub mod Opposing
pub mod Reducing
pub mod Standing
pub mod Weighing
pub mod Windowing
