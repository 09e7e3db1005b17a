pub mod Numbering
pub mod Reading
pub mod Outcome
pub mod Refusals
pub mod Shapes
pub mod Vocabularies
