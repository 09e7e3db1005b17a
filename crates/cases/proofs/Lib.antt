pub mod First
pub mod Judge
pub mod Reading
pub mod WordLists
pub mod Settling
pub mod Answering
pub mod Cases
