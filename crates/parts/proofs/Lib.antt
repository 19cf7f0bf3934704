-- The laws that the proofs of parts share, and those that its callers cite. Read in this order.
pub mod NumberLaws
pub mod BitLaws
pub mod RowLaws
pub mod PartLaws
