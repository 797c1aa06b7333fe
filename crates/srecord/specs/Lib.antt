pub mod Lines
pub mod Records
pub mod Load
pub mod Export
pub mod Promises
