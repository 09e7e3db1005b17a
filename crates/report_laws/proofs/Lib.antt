mod Once
mod Refusing
mod Splitting
mod Digits
