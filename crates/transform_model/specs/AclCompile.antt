-- What is passed on of `acl_compile`, so that the crates above need not list it.
pub use Rattle.acl_compile.specs.Bounds
pub use Rattle.acl_compile.specs.Laws
pub use Rattle.acl_compile.specs.Oriented
