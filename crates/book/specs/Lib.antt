pub mod Answers
pub mod Lists
pub mod Rules
pub mod Contents
pub mod Records
pub mod Loads
pub mod LoadLaw
pub mod Own
