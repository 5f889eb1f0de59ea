pub mod Hex
pub mod Reports
