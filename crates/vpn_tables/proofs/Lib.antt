-- Lemmas, in the order in which they stand on each other.
pub mod Moves
pub mod Filtering
pub mod Rows
pub mod RowsCounted
pub mod Known
pub mod Untouched
pub mod Led
pub mod Wanted
pub mod OneKey
pub mod RouteMoves
pub mod PublicationMoves
pub mod TouchedByChanges
pub mod Covering
pub mod TablesStay
pub mod Importing
pub mod Kept
pub mod Ports
pub mod Slices
pub mod AgentRows
mod Order
mod Keeping
mod UpStays
mod EntriesStay
mod LedStays
mod MovedRows
pub mod Differing
mod Same
mod Less
mod Alike
mod Dropped
mod Nothing
mod Emptied
mod AgentMoved
mod ObjectMoved
mod Possible
mod TableListed
-- What is passed on of `vpn_holdings`, so that the crates above need not list it.
pub use Rattle.vpn_holdings.proofs.AgentsIndexed
pub use Rattle.vpn_holdings.proofs.Choosing
pub use Rattle.vpn_holdings.proofs.Images
pub use Rattle.vpn_holdings.proofs.Keyed
pub use Rattle.vpn_holdings.proofs.Leads
pub use Rattle.vpn_holdings.proofs.Uses
pub use Rattle.vpn_holdings.proofs.NodeModel
pub use Rattle.vpn_holdings.proofs.NodeLaws
