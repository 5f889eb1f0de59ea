pub mod Books
pub mod Calls
pub mod Checks
pub mod Orders
pub mod Records
pub mod Refusals
