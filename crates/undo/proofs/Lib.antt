-- Laws of the walk. Read in this order.
pub mod WalkingLaws
pub mod WrittenLaws
pub mod WalkLaws
