pub mod Extends
pub mod Back
pub mod Forests
pub mod Fits
pub mod Hold
pub mod Same
pub mod One
pub mod Ruled
