pub mod Fronts
pub mod Put
