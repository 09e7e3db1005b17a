pub mod Tokens
pub mod Cuts
pub mod Texts
