-- What is passed on of `report`, so that the crates above need not list it.
pub use Rattle.report.specs.Lists
pub use Rattle.report.specs.Outcomes
