pub mod Answers
pub mod Bounds
pub mod Cases
pub mod Determined
pub mod Effects
pub mod Families
pub mod Ranges
pub mod Status
