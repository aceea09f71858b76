-- What is passed on of `config_check`, so that the crates above need not list it.
pub use Rattle.config_check.specs.Checked
