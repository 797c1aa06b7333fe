pub mod Pattern
pub mod Table
pub mod Code
pub mod Slot
