-- What the contracts of `edits` cite, as definitions.
pub mod Record
