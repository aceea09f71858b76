-- The files of definitions, in the order in which they stand on each other.
pub mod PeerKeys
pub mod Importing
pub mod Here
pub mod Stored
pub mod Listed
pub mod Changing
pub mod Followed
-- What is passed on of `vpn_holdings`, so that the crates above need not list it.
pub use Rattle.vpn_holdings.specs.Answers
pub use Rattle.vpn_holdings.specs.At
pub use Rattle.vpn_holdings.specs.Changes
pub use Rattle.vpn_holdings.specs.Gathered
pub use Rattle.vpn_holdings.specs.Indexed
pub use Rattle.vpn_holdings.specs.Leading
pub use Rattle.vpn_holdings.specs.Listing
pub use Rattle.vpn_holdings.specs.Moved
pub use Rattle.vpn_holdings.specs.Ranges
pub use Rattle.vpn_holdings.specs.Routes
pub use Rattle.vpn_holdings.specs.Touched
pub use Rattle.vpn_holdings.specs.TouchedKeys
pub use Rattle.vpn_holdings.specs.Views
pub use Rattle.vpn_holdings.specs.NodeModel
pub use Rattle.vpn_holdings.specs.NodeLaws
