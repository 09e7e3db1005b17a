mod Lists
mod Ledger
mod Tables
mod Running
mod Alike
