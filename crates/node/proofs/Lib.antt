-- The laws that the proofs of this crate share, and those that other crates cite. Read in this order.
pub mod KeyLaws
pub mod RisingLaws
pub mod LoadedLaws
pub mod UniqueLaws
