-- The files of definitions, in the order in which they stand on each other.
pub mod MachineModel
pub mod Ports
pub mod Core
pub mod Beginning
pub mod Ends
pub mod Planning
pub mod Taking
pub mod Setting
pub mod Changing
pub mod ConfigCheck
