pub mod Gathering
pub mod Naming
pub mod Of
pub mod Tables
