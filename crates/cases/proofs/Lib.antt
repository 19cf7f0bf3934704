-- Cases that take long to compute: pages on their limits.
pub mod Full
