pub mod Signs
pub mod Complete
pub mod Sound
pub mod Prefix
