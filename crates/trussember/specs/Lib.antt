-- What the contracts of `trussember` cite, as definitions.
pub mod Told
