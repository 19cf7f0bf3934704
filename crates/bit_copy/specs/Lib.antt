-- What the contracts of bit_copy cite besides format's definitions. Read in this order.
pub mod Runs
pub mod Calls
