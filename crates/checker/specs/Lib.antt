pub mod Readings
pub mod Steps
pub mod Walks
pub mod Gathered
pub mod Checks
pub mod CheckLaw
