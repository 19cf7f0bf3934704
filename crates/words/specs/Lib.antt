-- What the contracts of `words` cite, as definitions.
pub mod Words
