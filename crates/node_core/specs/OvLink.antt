-- What is passed on of `ov_link`, so that the crates above need not list it.
pub use Rattle.ov_link.specs.declared.step.Input
