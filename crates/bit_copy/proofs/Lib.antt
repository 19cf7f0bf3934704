-- Laws that the proofs of bit_copy share, and those that other crates cite. Read in this order.
pub mod FieldLaws
pub mod RunLaws
pub mod WordLaws
