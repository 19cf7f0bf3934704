-- What the contracts of `round_trip` cite, as definitions.
pub mod Trip
