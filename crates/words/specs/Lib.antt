pub mod Words
pub mod Cut
