-- What is passed on of `bgp_vpn`, so that the crates above need not list it.
pub use Rattle.bgp_session.specs.BgpVpn.Written
