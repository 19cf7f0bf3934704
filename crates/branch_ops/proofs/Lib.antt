-- The laws that the proofs of this crate share, and those that other crates cite. Read in this order.
pub mod ChoiceLaws
pub mod PutLaws
pub mod WriterLaws
pub mod Cases
pub mod UniqueLaws
