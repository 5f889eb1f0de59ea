pub mod Answers
pub mod Changes
pub mod Determined
pub mod Exact
pub mod Lives
pub mod Standing
