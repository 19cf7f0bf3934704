-- The laws that the proofs of builder share, those that its callers cite, and worked cases. Read in this order.
pub mod RowLaws
pub mod PushLaws
pub mod JoinLaws
pub mod OverLaws
pub mod WriteLaws
pub mod BaseLaws
pub mod Cases
