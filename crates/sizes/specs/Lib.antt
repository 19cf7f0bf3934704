-- What the contracts of `sizes` cite, as definitions.
pub mod Sizes
