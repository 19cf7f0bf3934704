-- Laws that the proofs of bit_ops share.
pub mod SharedLaws
