pub mod Lines
pub mod Orders
