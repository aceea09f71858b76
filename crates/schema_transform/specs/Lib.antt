pub mod Sound
pub mod Held
pub mod HeldUses
pub mod Concerning
pub mod Towards
pub mod ByNumber
pub mod Kept
pub mod TransformModel
