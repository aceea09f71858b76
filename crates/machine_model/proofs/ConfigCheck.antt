-- What is passed on of `config_check`, so that the crates above need not list it.
pub use Rattle.schedule_script.proofs.ConfigCheck.EachRule
pub use Rattle.schedule_script.proofs.ConfigCheck.Iffs
pub use Rattle.schedule_script.proofs.ConfigCheck.Straight
pub use Rattle.schedule_script.proofs.ConfigCheck.Validity
