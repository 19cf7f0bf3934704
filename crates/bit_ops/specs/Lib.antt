-- What the contracts of bit_ops cite besides format's definitions.
pub mod Calls
