pub mod Answers
pub mod Closings
pub mod Fields
pub mod Shown
