-- What is passed on of `acl_compile`, so that the crates above need not list it.
pub use Rattle.acl_compile.proofs.Bounded
pub use Rattle.acl_compile.proofs.Deciding
pub use Rattle.acl_compile.proofs.Kept
pub use Rattle.acl_compile.proofs.Orders
