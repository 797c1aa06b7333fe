pub mod Division
