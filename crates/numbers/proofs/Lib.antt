-- The laws that the proofs of this crate share, and those that other crates cite.
pub mod LittleLaws
