pub mod Filled
pub mod Steps
pub mod Trees
pub mod Whole
pub mod Attempts
