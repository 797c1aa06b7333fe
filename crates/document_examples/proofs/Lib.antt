pub mod Reports
pub mod Runs
