pub mod Figures
pub mod Filling
pub mod Numbers
pub mod Values
pub mod Writes
