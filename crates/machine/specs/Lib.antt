pub mod Situation
pub mod Exceptions
pub mod Step
pub mod Run
pub mod Calls
pub mod Longs
pub mod Promises
