-- What document 01 means, as definitions that compute. Read in this order; nothing but definitions stands here.
-- A line `unfolding f g` says which definitions the next one is allowed to compute through, and carries no meaning of
-- its own.
pub mod Bits
pub mod Key
pub mod Answer
pub mod Page
pub mod Sizes
pub mod Ranges
pub mod Normal
pub mod Edit
pub mod Undo
pub mod Build
pub mod Refusals
