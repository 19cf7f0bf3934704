-- The laws that the proofs of this crate share, and those that other crates cite. Read in this order.
pub mod CompareLaws
pub mod KeysLaws
pub mod BehindLaws
pub mod UniqueLaws
pub mod OrderLaws
