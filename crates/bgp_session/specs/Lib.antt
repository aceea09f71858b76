pub mod Inputs
pub mod Table
pub mod Happenings
pub mod Words
pub mod Reading
pub mod BgpVpn
