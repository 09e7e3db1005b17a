pub mod Held
pub mod LoadLaw
mod Loaded
mod ListedOwn
