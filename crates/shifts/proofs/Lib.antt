pub mod Rotations
