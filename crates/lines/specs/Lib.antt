pub mod Asking
pub mod Bounding
pub mod Keeping
pub mod Operators
pub mod Opposites
pub mod Proper
pub mod Quarrels
pub mod Timetables
