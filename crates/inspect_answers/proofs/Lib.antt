mod Unfitting
mod Answered
mod Told
mod ExpectRead
mod Counting
mod Meeting
mod Otherwise
mod Taken
mod NoFloats
mod ExpectReadBack
mod TookIdle
mod TookReasons
mod JudgedEdits
mod Changed
pub mod Formed
pub mod OfEach
pub mod RegionSizes
pub mod RuleSizes
pub mod LineSizes
pub mod PacketSizes
