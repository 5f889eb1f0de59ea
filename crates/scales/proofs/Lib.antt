pub mod Depth
pub mod Lawful
pub mod Order
pub mod Printing
pub mod Readings
