-- What the contracts of `view` cite, as definitions.
pub mod Seen
