-- What the contracts of `rows` cite, as definitions.
pub mod Rows
