-- What the contracts of `branch_ops` cite, as definitions. Read in this order.
pub mod Choice
pub mod Writer
