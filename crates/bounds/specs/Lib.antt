pub mod Bounds
pub mod Closure
pub mod Ends
pub mod Least
pub mod Lowering
pub mod Mirror
pub mod Reach
pub mod Rounds
