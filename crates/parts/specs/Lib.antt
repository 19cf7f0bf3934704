-- What the contracts of parts cite, as definitions.
pub mod Parts
