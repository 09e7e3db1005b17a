pub mod Ledger
pub mod Tables
pub mod Logs
pub mod Phases
pub mod Runs
pub mod Columns
