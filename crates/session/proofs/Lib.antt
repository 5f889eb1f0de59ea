pub mod Cuts
pub mod HeadingFaults
pub mod OneReading
pub mod Running
pub mod Sofar
pub mod Spelling
