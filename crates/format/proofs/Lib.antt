-- Worked cases of the definitions of specs/, by computation. Read in this order. Their laws: crate `facts`.
pub mod Samples
pub mod Table
pub mod Sides
