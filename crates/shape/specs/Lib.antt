-- What the contracts of `shape` cite, as definitions.
pub mod Shape
