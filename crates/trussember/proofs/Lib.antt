-- Laws that the proofs of trussember share.
pub mod ToldLaws
