pub mod Sums
pub mod Compares
pub mod Logic
pub mod Transfers
pub mod Addresses
