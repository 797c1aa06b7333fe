pub mod State
pub mod Shapes
pub mod Execute
pub mod Promises
