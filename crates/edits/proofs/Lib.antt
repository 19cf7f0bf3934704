-- The laws that the proofs of this crate share, and those that other crates cite. Read in this order.
pub mod ReadingLaws
pub mod CheckLaws
pub mod Cases
pub mod UniqueLaws
