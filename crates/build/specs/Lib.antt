-- What the contract of `build` cites, as definitions.
pub mod Built
