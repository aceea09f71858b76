-- What is passed on of `config_check`, so that the crates above need not list it.
pub use Rattle.schedule_script.specs.ConfigCheck.Checked
pub use Rattle.schedule_script.specs.ConfigCheck.Rules
pub use Rattle.schedule_script.specs.ConfigCheck.Sentences
