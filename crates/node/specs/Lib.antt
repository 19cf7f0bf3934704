-- What the contracts of `node` cite, as definitions.
pub mod Reader
