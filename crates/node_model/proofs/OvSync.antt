-- What is passed on of `ov_sync`, so that the crates above need not list it.
pub use Rattle.ov_sync.proofs.KeyedLaws
