pub mod Lists
pub mod Steps
pub mod Laws
pub mod Prints
pub mod Again
