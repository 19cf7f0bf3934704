-- The outside cases.
pub mod Vectors
