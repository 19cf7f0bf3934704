-- What the contracts of `keys` cite, as definitions.
pub mod Keys
