-- What the contracts of builder cite, as definitions. Read in this order.
pub mod Writes
pub mod Over
pub mod Passed
