pub mod Arms
pub mod Conjunction
pub mod Digits
pub mod Patterns
pub mod Rewriting
pub mod Rows
pub mod Table
pub mod Widths
