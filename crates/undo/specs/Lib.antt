-- What the contracts of `undo` cite, as definitions.
pub mod Walk
