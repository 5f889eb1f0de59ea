pub mod Going
pub mod Lining
pub mod Running
pub mod Showing
