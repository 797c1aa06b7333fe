pub mod Access
pub mod Lengths
