-- What the contracts of `apply` cite, as definitions.
pub mod Apply
