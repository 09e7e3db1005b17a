pub mod Words
pub mod Records
pub mod Grammar
pub mod Reading
pub mod Faults
pub mod Printing
