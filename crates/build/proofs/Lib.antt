-- Laws of the parts of a build. Read in this order.
mod LoadLaws
mod SourceLaws
mod PlanLaws
mod BuiltLaws
pub mod UniqueLaws
